-- Each turn passes one operator and its rows; it is marked, so that none comes twice.
use Prim.Native.Nat.{◌-◌}
use lib.ListN.{length}
use Rattle.straight.proofs.Laws.Conditions.{Rising}
use Rattle.straight.proofs.rows.condition.Given as goal

abbrev pub invariant-loop-operator : goal.invariant-loop-operator
invariant-loop-operator l = Rising l.s l.v l.initial.run l.at l.i l.run l.past l.count l.seen

abbrev pub decreases-loop-operator : goal.decreases-loop-operator
decreases-loop-operator l = length l.s - l.i
