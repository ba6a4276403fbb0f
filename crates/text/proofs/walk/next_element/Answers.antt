-- Behind the white space stands the closing bracket, or a comma and behind it the next element.
use native.Mathlib.Omega.{arith}
use Rattle.text.proofs.Laws.Contents.{rest_inside}
use Rattle.text.proofs.Laws.Contents.Turns.{rest_turn, turn_inside, turn_closed, turn_open}
use Rattle.text.proofs.walk.next_element.Goals as goal

pub space-j-requires : goal.space-j-requires
space-j-requires c = rest_inside c.requires.is

pub bounds-s-j : goal.bounds-s-j
bounds-s-j c = turn_inside (rest_turn c.space-j.ensures c.requires.is)

pub returns-then-s-j-eq93 : goal.returns-then-s-j-eq93
returns-then-s-j-eq93 c = λ ts e p. turn_closed (rest_turn c.space-j.ensures p) c.if-s-j-eq93.true

pub overflow_add-j : goal.overflow_add-j
overflow_add-j c =
    let h = turn_inside (rest_turn c.space-j.ensures c.requires.is) in omega arith

pub space-requires : goal.space-requires
space-requires c =
    let h = turn_inside (rest_turn c.space-j.ensures c.requires.is) in omega arith

pub returns : goal.returns
returns c =
    λ ts e p. turn_open (rest_turn c.space-j.ensures p) c.if-s-j-eq93.false _ c.space.ensures
