-- No escape passed is wrong.
use mathlib.Core.Path.{◌≡◌}
use Prim.Native.Nat.{◌-◌}
use lib.ListN.{length, drop}
use Rattle.syntax.specs.Forms.{symbols_of}
use Rattle.syntax.specs.Told.{is_read}
use Rattle.syntax.proofs.symbols.escapes_right.Given as goal

abbrev pub invariant-loop-i : goal.invariant-loop-i
invariant-loop-i l = is_read (symbols_of l.wild l.cs) ≡ is_read (symbols_of l.wild (drop l.i l.cs))

abbrev pub decreases-loop-i : goal.decreases-loop-i
decreases-loop-i l = length l.cs - l.i
