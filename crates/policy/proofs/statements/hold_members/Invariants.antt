-- Each turn takes one member more or finds that it breaks the layout; behind the last both have to have come.
use Rattle.parts.proofs.Laws.Walking.{left_of}
use Rattle.policy.proofs.Laws.Partway.{Partway}
use Rattle.policy.proofs.statements.hold_members.Given as goal

abbrev pub invariant-loop-m : goal.invariant-loop-m
invariant-loop-m l = Partway l.s l.v l.initial.run l.run l.version l.past l.m

abbrev pub decreases-loop-m : goal.decreases-loop-m
decreases-loop-m l = left_of l.s l.m
