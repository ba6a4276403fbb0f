-- As long as all were plain, so are the bytes passed.
use mathlib.Core.Path.{◌≡◌}
use mathlib.Core.Bool.{true}
use Prim.Native.Nat.{ℕ, ◌≤◌, ◌<◌, ◌-◌, ◌+◌}
use lib.ListN.{get_or}
use Rattle.chars.specs.Steps.{Plain}
use Rattle.chars.proofs.strings.plain_eight.Given as goal

abbrev pub invariant-loop-j : goal.invariant-loop-j
invariant-loop-j l =
    (l.j ≤ 8) × (l.all ≡ true → (k : ℕ) → k < l.j → Plain (get_or l.s (l.at + k) 0))

abbrev pub decreases-loop-j : goal.decreases-loop-j
decreases-loop-j l =
    8 - l.j
