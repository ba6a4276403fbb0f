-- Each turn puts eight characters that were tested and for which there is room.
use Prim.Native.Nat.{◌-◌}
use lib.ListN.{length}
use Rattle.writing.specs.Plain.{PlainPut}
use Rattle.writing.proofs.plain.put_eights.Given as goal

abbrev pub invariant-loop-n : goal.invariant-loop-n
invariant-loop-n l = PlainPut l.ys l.n l.initial.out l.out

abbrev pub decreases-loop-n : goal.decreases-loop-n
decreases-loop-n l = length l.ys - l.n
