-- Behind the blocks, be it in the next or behind the last, every byte passed is not special.
use mathlib.Core.List.{[], ◌∷◌}
use Prim.Native.Nat.{◌-◌}
use lib.ListN.{length}
use Rattle.text.specs.Machine.{text}
use Rattle.text.specs.Reading.{Leads}
use Rattle.text.proofs.quoted.plain.Given as goal

abbrev pub invariant-loop-i : goal.invariant-loop-i
invariant-loop-i l = Leads l.s (text ∷ []) l.at (text ∷ []) l.i

abbrev pub decreases-loop-i : goal.decreases-loop-i
decreases-loop-i l = length l.s - l.i
