-- Each turn puts eight bytes that were tested and for which there is room.
use Prim.Native.Nat.{◌≤◌, ◌-◌, ◌+◌}
use lib.ListN.{length}
use Rattle.straight.specs.Taking.{Puts}
use Rattle.straight.proofs.strings.put_eights.Given as goal

abbrev pub invariant-loop-n : goal.invariant-loop-n
invariant-loop-n l = (l.to + l.n ≤ length l.run) × (Puts l.s l.initial.run l.run l.at l.to l.n)

abbrev pub decreases-loop-n : goal.decreases-loop-n
decreases-loop-n l = length l.s - l.at - l.n
