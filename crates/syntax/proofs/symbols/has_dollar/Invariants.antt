-- As long as none was found, none of those passed is a dollar.
use mathlib.Core.Path.{◌≡◌}
use mathlib.Core.Bool.{false}
use Prim.Native.Nat.{ℕ, ◌<◌}
use lib.ListN.{get_or}
use Rattle.syntax.proofs.symbols.has_dollar.Given as goal

abbrev pub invariant-loop-c : goal.invariant-loop-c
invariant-loop-c l = l.found ≡ false → (k : ℕ) → k < l.c-index → get_or l.cs k 0 ≡ 36 → ⊥
