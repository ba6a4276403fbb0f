-- Behind what was put by eights each turn puts one byte that was tested and for which there is room.
use mathlib.Core.List.{List}
use Prim.Native.Nat.{ℕ, ◌-◌}
use lib.ListN.{length}
use Rattle.straight.specs.Taking.{Puts}
use Rattle.straight.proofs.strings.put_plain.Given as goal

abbrev pub invariant-loop-n : goal.invariant-loop-n
invariant-loop-n l = (r : List ℕ) → Puts l.s r l.initial.run l.at l.to l.initial.n → Puts l.s r l.run l.at l.to l.n

abbrev pub decreases-loop-n : goal.decreases-loop-n
decreases-loop-n l = length l.s - l.at - l.n
