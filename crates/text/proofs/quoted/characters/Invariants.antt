-- The rest of the string is owed at `i`; each turn takes one character and passes what is plain behind it.
use mathlib.Core.List.{[], ◌∷◌}
use Prim.Native.Nat.{◌-◌}
use lib.ListN.{length}
use Rattle.text.specs.Machine.{text}
use Rattle.text.specs.Reading.{Leads}
use Rattle.text.proofs.quoted.characters.Given as goal

abbrev pub invariant-loop-b : goal.invariant-loop-b
invariant-loop-b l = Leads l.s (text ∷ []) l.at (text ∷ []) l.i

abbrev pub decreases-loop-b : goal.decreases-loop-b
decreases-loop-b l = length l.s - l.i
