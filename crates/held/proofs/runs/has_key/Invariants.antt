-- None of the rows passed has the key; whichever rows lie at the places are the ones compared.
use mathlib.Core.Bool.{false}
use Rattle.syntax.specs.Policy.{Row}
use Rattle.syntax.specs.PolicyLayout.{same_row}
use Rattle.held.specs.Held.{held_row}
use Rattle.held.specs.Lying.{Lies}
use Rattle.held.proofs.Laws.RunsWalk.{Walks}
use Rattle.held.proofs.runs.has_key.Given as goal

abbrev pub invariant-loop : goal.invariant-loop
invariant-loop l = (x : Row) → Lies l.run l.p (held_row x)
    → Walks held_row (same_row x) (λ y. 0) l.run l.at l.n l.counter l.q 0 false
