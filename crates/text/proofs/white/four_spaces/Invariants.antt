-- As long as all were spaces, more white space is owed behind the bytes passed.
use mathlib.Core.Path.{◌≡◌}
use mathlib.Core.Bool.{true}
use mathlib.Core.List.{[], ◌∷◌}
use Prim.Native.Nat.{◌≤◌, ◌+◌}
use Rattle.text.specs.Machine.{ws}
use Rattle.text.specs.Reading.{Leads}
use Rattle.text.proofs.white.four_spaces.Given as goal

abbrev pub invariant-loop-j : goal.invariant-loop-j
invariant-loop-j l = (l.j ≤ 4) × (l.all ≡ true → Leads l.s (ws ∷ []) l.at (ws ∷ []) (l.at + l.j))
