-- As long as each part begins where the one before ends, they are one part.
use mathlib.Core.List.{List}
use Prim.Native.Nat.{ℕ, ◌≤◌, ◌-◌}
use Rattle.objects.specs.Spans.{Spanned}
use Rattle.objects.proofs.Laws.Settling.{Lying}
use Rattle.objects.proofs.settling.settled.Given as goal

abbrev pub invariant-loop-n : goal.invariant-loop-n
invariant-loop-n l = (l.n ≤ l.last) × ((run : List ℕ) → Spanned run l.spans l.last l.at → Lying run l.spans l.at l.n l.p)

abbrev pub decreases-loop-n : goal.decreases-loop-n
decreases-loop-n l = l.last - l.n
