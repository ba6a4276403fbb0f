-- Every block passed is of letters and digits, and where the last is too, all up to the end.
use Prim.Native.Nat.{◌-◌}
use lib.ListN.{length}
use Rattle.syntax.specs.Forms.{Each, is_alphanumeric}
use Rattle.syntax.proofs.forms.past_eights.Given as goal

abbrev pub invariant-loop-i : goal.invariant-loop-i
invariant-loop-i l = Each is_alphanumeric l.cs 0 l.i

abbrev pub decreases-loop-i : goal.decreases-loop-i
decreases-loop-i l = length l.cs - l.i
