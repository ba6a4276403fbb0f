-- As long as all were the same, so are the bytes passed.
use mathlib.Core.Path.{◌≡◌}
use mathlib.Core.Bool.{true}
use Prim.Native.Nat.{ℕ, ◌≤◌, ◌<◌, ◌-◌, ◌+◌}
use lib.ListN.{length, get_or}
use Rattle.straight.proofs.marks.spells.Given as goal

abbrev pub invariant-loop-j : goal.invariant-loop-j
invariant-loop-j l =
    (l.j ≤ length l.w) × (l.all ≡ true → (k : ℕ) → k < l.j → get_or l.s (l.at + k) 0 ≡ get_or l.w k 0)

abbrev pub decreases-loop-j : goal.decreases-loop-j
decreases-loop-j l = length l.w - l.j
