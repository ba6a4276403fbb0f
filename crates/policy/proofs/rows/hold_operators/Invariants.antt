-- Each turn holds the rows of one operator behind those before it; one seen before, or a wrong one, ends the walk.
use Rattle.parts.proofs.Laws.Walking.{left_of}
use Rattle.policy.proofs.Laws.Operators.{Operators}
use Rattle.policy.proofs.rows.hold_operators.Given as goal

abbrev pub invariant-loop-m : goal.invariant-loop-m
invariant-loop-m l = Operators l.s l.v l.initial.run l.at l.run l.seen l.m l.past l.count

abbrev pub decreases-loop-m : goal.decreases-loop-m
decreases-loop-m l = left_of l.s l.m
