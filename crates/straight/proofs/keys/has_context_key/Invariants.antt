-- None of the entries passed has the key; whichever entries lie at the places are the ones compared.
use mathlib.Core.Bool.{false}
use Rattle.syntax.specs.Policy.{Context}
use Rattle.syntax.specs.RecordLayout.{same_context}
use Rattle.held.specs.Held.{held_context}
use Rattle.held.specs.Lying.{Lies}
use Rattle.held.proofs.Laws.RunsWalk.{Walks}
use Rattle.straight.proofs.keys.has_context_key.Given as goal

abbrev pub invariant-loop : goal.invariant-loop
invariant-loop l = (x : Context) → Lies l.run l.p (held_context x)
    → Walks held_context (same_context x) (λ y. 0) l.run l.at l.n l.counter l.q 0 false
