-- Each turn holds one row behind those before it; a key that one of them has, or a wrong row, ends the walk.
use Rattle.parts.specs.Spoken.{operator_is}
use Rattle.parts.proofs.Laws.Walking.{left_of}
use Rattle.policy.proofs.Laws.Rows.{Apart}
use Rattle.policy.proofs.rows.hold_rows.Given as goal

abbrev pub invariant-loop-m : goal.invariant-loop-m
invariant-loop-m l = Apart (operator_is l.o) l.s l.v l.initial.run l.at l.run l.m l.past l.count

abbrev pub decreases-loop-m : goal.decreases-loop-m
decreases-loop-m l = left_of l.s l.m
