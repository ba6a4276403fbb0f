-- At each place, as many brackets are open as the code has counted.
use Prim.Native.Nat.{◌-◌}
use lib.ListN.{length}
use Rattle.text.proofs.Laws.Skipping.Walking.{Held}
use Rattle.text.proofs.walk.past_closed.Given as goal

abbrev pub invariant-loop-deep : goal.invariant-loop-deep
invariant-loop-deep l = Held l.s l.v l.i l.deep

abbrev pub decreases-loop-deep : goal.decreases-loop-deep
decreases-loop-deep l = length l.s - l.i
