-- Behind the white space stands the closing brace, or a comma and behind it the next member.
use native.Mathlib.Omega.{arith}
use Rattle.text.proofs.Laws.Contents.{others_inside}
use Rattle.text.proofs.Laws.Contents.Turns.{more_turn, turn_inside, turn_closed, turn_open}
use Rattle.text.proofs.Laws.Contents.Entries.{leads_later}
use Rattle.text.proofs.walk.next_member.Goals as goal

pub space-j-requires : goal.space-j-requires
space-j-requires c = others_inside c.requires.is

pub bounds-s-j : goal.bounds-s-j
bounds-s-j c = turn_inside (more_turn c.space-j.ensures c.requires.is)

pub returns-then-s-j-eq125 : goal.returns-then-s-j-eq125
returns-then-s-j-eq125 c = λ ms e p. turn_closed (more_turn c.space-j.ensures p) c.if-s-j-eq125.true

pub overflow_add-j : goal.overflow_add-j
overflow_add-j c =
    let h = turn_inside (more_turn c.space-j.ensures c.requires.is) in omega arith

pub space-requires : goal.space-requires
space-requires c =
    let h = turn_inside (more_turn c.space-j.ensures c.requires.is) in omega arith

pub entry-requires : goal.entry-requires
entry-requires c =
    record {
      what = c.requires.what;
      stop = c.requires.stop;
      is = turn_open (more_turn c.space-j.ensures c.requires.is) c.if-s-j-eq125.false _ c.space.ensures;
    }

pub returns : goal.returns
returns c =
    λ ms e p.
    leads_later _ _ _ ms e c.entry.result
    (omega arith)
    (c.entry.ensures ms e
    (turn_open (more_turn c.space-j.ensures p) c.if-s-j-eq125.false _ c.space.ensures))
