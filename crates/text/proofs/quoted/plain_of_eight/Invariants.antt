-- Every byte passed is not special.
use mathlib.Core.List.{[], ◌∷◌}
use Prim.Native.Nat.{◌≤◌, ◌-◌, ◌+◌}
use Rattle.text.specs.Machine.{text}
use Rattle.text.specs.Reading.{Leads}
use Rattle.text.proofs.quoted.plain_of_eight.Given as goal

abbrev pub invariant-loop-j : goal.invariant-loop-j
invariant-loop-j l = (l.j ≤ 8) × Leads l.s (text ∷ []) l.at (text ∷ []) (l.at + l.j)

abbrev pub decreases-loop-j : goal.decreases-loop-j
decreases-loop-j l = 8 - l.j
