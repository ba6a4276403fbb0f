-- None of the statements passed has the Sid; whichever statements lie at the places are the ones compared.
use mathlib.Core.List.{List}
use Prim.Native.Nat.{ℕ}
use Rattle.syntax.specs.Policy.{Statement}
use Rattle.syntax.specs.PolicyLayout.{same_sid}
use Rattle.held.specs.Held.{held_statement}
use Rattle.held.specs.Lying.{Lies, Placed}
use Rattle.held.proofs.Laws.Placed.{Left}
use Rattle.held.proofs.runs.has_sid_at.Given as goal

abbrev pub invariant-loop-i : goal.invariant-loop-i
invariant-loop-i l = (e : ℕ) (xs : List Statement) (x : Statement) → Placed held_statement l.run l.places l.n e xs
    → Lies l.run l.p (held_statement x) → Left held_statement same_sid l.run l.places l.n e xs x l.i
