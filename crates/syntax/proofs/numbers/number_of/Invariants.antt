-- The digits passed made n, and it is small enough for one more.
use Prim.Native.Nat.{ℕ, ◌≤◌}
use mathlib.Core.List.{List}
use Rattle.syntax.specs.Limits.{greatest}
use Rattle.syntax.specs.Told.{Means}
use Rattle.syntax.proofs.Laws.Numbers.{Counted}
use Rattle.syntax.proofs.numbers.number_of.Given as goal

abbrev pub invariant-loop-d : goal.invariant-loop-d
invariant-loop-d g l =
    (l.n ≤ greatest) × ((cs : List ℕ) → Means g.D.Into.converts l.digits cs → Counted cs l.n l.d-index)
