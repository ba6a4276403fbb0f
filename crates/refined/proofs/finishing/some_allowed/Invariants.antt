-- Each turn passes one statement that is no Allow, or is not written.
use Rattle.held.specs.Held.{held_statement}
use Rattle.refined.specs.Keeping.{policy_values}
use Rattle.refined.proofs.Laws.KeepingTests.{Lookings}
use Rattle.refined.proofs.Laws.KeepingPolicy.{allow_test}
use Rattle.refined.proofs.finishing.some_allowed.Given as goal

abbrev pub invariant-loop-i : goal.invariant-loop-i
invariant-loop-i l = Lookings held_statement policy_values allow_test l.run l.room 1 0 l.n l.i l.p l.s
