-- As long as none was found, the rest of the string is owed behind the bytes passed.
use mathlib.Core.Path.{◌≡◌}
use mathlib.Core.Bool.{false}
use mathlib.Core.List.{[], ◌∷◌}
use Prim.Native.Nat.{◌≤◌, ◌+◌}
use Rattle.text.specs.Machine.{text}
use Rattle.text.specs.Reading.{Leads}
use Rattle.text.proofs.quoted.special_in_eight.Given as goal

abbrev pub invariant-loop-j : goal.invariant-loop-j
invariant-loop-j l = (l.j ≤ 8) × (l.found ≡ false → Leads l.s (text ∷ []) l.at (text ∷ []) (l.at + l.j))
