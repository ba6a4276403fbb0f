-- At each turn a string is due, if a quote stands there; else what was read is answered.
use Prim.Native.Nat.{ℕ, ◌-◌}
use lib.ListN.{length}
use Rattle.text.specs.declared.scan.Shape.TheVariants.{List}
use Rattle.text.proofs.Laws.Quick.{Strung}
use Rattle.text.proofs.quick.strings.Given as goal

abbrev pub invariant-loop-read : goal.invariant-loop-read
invariant-loop-read l = (n : ℕ) → Strung l.s List n l.at l.i l.read

abbrev pub decreases-loop-read : goal.decreases-loop-read
decreases-loop-read l = length l.s - l.i
