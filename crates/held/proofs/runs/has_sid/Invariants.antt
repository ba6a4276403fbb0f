-- None of the statements passed has the Sid; whichever statements lie at the places are the ones compared.
use mathlib.Core.Bool.{false}
use Rattle.syntax.specs.Policy.{Statement}
use Rattle.syntax.specs.PolicyLayout.{same_sid}
use Rattle.held.specs.Held.{held_statement}
use Rattle.held.specs.Lying.{Lies}
use Rattle.held.proofs.Laws.RunsWalk.{Walks}
use Rattle.held.proofs.runs.has_sid.Given as goal

abbrev pub invariant-loop : goal.invariant-loop
invariant-loop l = (x : Statement) → Lies l.run l.p (held_statement x)
    → Walks held_statement (same_sid x) (λ y. 0) l.run l.at l.n l.counter l.q 0 false
