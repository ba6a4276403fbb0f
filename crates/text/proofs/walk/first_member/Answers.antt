-- Behind the white space stands the closing brace or the first member.
use native.Mathlib.Omega.{arith}
use Rattle.text.proofs.Laws.Contents.{stands_inside}
use Rattle.text.proofs.Laws.Contents.Turns.{object_turn, turn_inside, turn_closed, turn_open}
use Rattle.text.proofs.Laws.Contents.Entries.{leads_later}
use Rattle.text.proofs.walk.first_member.Goals as goal

pub overflow_add-v : goal.overflow_add-v
overflow_add-v c = let h = stands_inside c.requires.is in omega arith

pub space-i-requires : goal.space-i-requires
space-i-requires c = let h = stands_inside c.requires.is in omega arith

pub bounds-s-i : goal.bounds-s-i
bounds-s-i c = turn_inside (object_turn c.space-i.ensures c.requires.is)

pub returns-then-s-i-eq125 : goal.returns-then-s-i-eq125
returns-then-s-i-eq125 c = λ ms e p. turn_closed (object_turn c.space-i.ensures p) c.if-s-i-eq125.true

pub entry-requires : goal.entry-requires
entry-requires c =
    record {
      what = c.requires.what;
      stop = c.requires.stop;
      is = turn_open (object_turn c.space-i.ensures c.requires.is) c.if-s-i-eq125.false;
    }

pub returns : goal.returns
returns c =
    λ ms e p.
    leads_later _ _ _ ms e c.entry.result (omega arith)
    (c.entry.ensures ms e (turn_open (object_turn c.space-i.ensures p) c.if-s-i-eq125.false))
