-- Behind each inner value the same is owed as behind the one before.
use mathlib.Core.List.{[], ◌∷◌}
use Prim.Native.Nat.{◌-◌}
use lib.ListN.{length}
use Rattle.text.specs.Machine.{ws, next}
use Rattle.text.specs.Reading.{Leads}
use Rattle.text.proofs.onward.rest.Given as goal

abbrev pub invariant-loop-m : goal.invariant-loop-m
invariant-loop-m l = Leads l.s (ws ∷ next l.shape l.left ∷ []) l.at (ws ∷ next l.shape l.left ∷ []) l.i

abbrev pub decreases-loop-m : goal.decreases-loop-m
decreases-loop-m l = length l.s - l.i
