-- What was passed is white space, and at the end the item is done: before a byte of another kind, or with the text.
use mathlib.Core.List.{[], ◌∷◌}
use Prim.Native.Nat.{◌-◌}
use lib.ListN.{length}
use Rattle.text.specs.Reading.{Leads}
use Rattle.text.specs.Machine.{ws}
use Rattle.text.proofs.scan.space.Given as goal

abbrev pub invariant-loop-i : goal.invariant-loop-i
invariant-loop-i l = Leads l.s (ws ∷ []) l.at (ws ∷ []) l.i

abbrev pub decreases-loop-i : goal.decreases-loop-i
decreases-loop-i l = length l.s - l.i
