-- What was passed is digits, and at the end the item is done: before another byte, or with the text.
use mathlib.Core.List.{[], ◌∷◌}
use Prim.Native.Nat.{◌-◌}
use lib.ListN.{length}
use Rattle.text.specs.Reading.{Leads}
use Rattle.text.specs.Machine.{digits}
use Rattle.text.proofs.numbers.some_digits.Given as goal

abbrev pub invariant-loop-i : goal.invariant-loop-i
invariant-loop-i l = Leads l.s (digits ∷ []) l.at (digits ∷ []) l.i

abbrev pub decreases-loop-i : goal.decreases-loop-i
decreases-loop-i l = length l.s - l.i
