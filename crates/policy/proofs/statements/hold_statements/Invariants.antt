-- Each turn holds one statement behind those before it, unless one of them has its Sid, or ends the walk.
use Rattle.syntax.specs.PolicyLayout.{statement_of, same_sid}
use Rattle.held.specs.Held.{held_statement}
use Rattle.policy.proofs.Laws.FitsPolicy.{statement_fits}
use Rattle.parts.proofs.Laws.Gathering.{element_left}
use Rattle.parts.proofs.Laws.Differ.{same_sid_symmetric}
use Rattle.policy.proofs.Laws.Apart.{Apart}
use Rattle.policy.proofs.statements.hold_statements.Given as goal

abbrev pub invariant-loop-m : goal.invariant-loop-m
invariant-loop-m l =
    Apart held_statement statement_of statement_fits same_sid same_sid_symmetric l.s l.v l.initial.run l.at l.run l.m l.past l.count

abbrev pub decreases-loop-m : goal.decreases-loop-m
decreases-loop-m l = element_left l.s l.m
