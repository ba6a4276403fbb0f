-- Behind the white space stands the closing bracket or the first element.
use native.Mathlib.Omega.{arith}
use Rattle.text.proofs.Laws.Contents.{stands_inside}
use Rattle.text.proofs.Laws.Contents.Turns.{list_turn, turn_inside, turn_closed, turn_open}
use Rattle.text.proofs.walk.first_element.Goals as goal

pub overflow_add-v : goal.overflow_add-v
overflow_add-v c = let h = stands_inside c.requires.is in omega arith

pub space-i-requires : goal.space-i-requires
space-i-requires c = let h = stands_inside c.requires.is in omega arith

pub bounds-s-i : goal.bounds-s-i
bounds-s-i c = turn_inside (list_turn c.space-i.ensures c.requires.is)

pub returns-then-s-i-eq93 : goal.returns-then-s-i-eq93
returns-then-s-i-eq93 c = λ ts e p. turn_closed (list_turn c.space-i.ensures p) c.if-s-i-eq93.true

pub returns : goal.returns
returns c = λ ts e p. turn_open (list_turn c.space-i.ensures p) c.if-s-i-eq93.false
