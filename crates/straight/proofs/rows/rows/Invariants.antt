-- Each turn passes one row behind those before it, whose key none of them has; behind the last the object ends.
use Prim.Native.Nat.{◌-◌}
use lib.ListN.{length}
use Rattle.parts.specs.Spoken.{operator_is}
use Rattle.straight.proofs.Laws.Differing.{Differing}
use Rattle.straight.proofs.Laws.Rows.{rows_by}
use Rattle.straight.proofs.rows.rows.Given as goal

abbrev pub invariant-loop-h : goal.invariant-loop-h
invariant-loop-h l = Differing (rows_by (operator_is l.o)) l.s l.v l.initial.run l.at l.i l.run l.past l.count

abbrev pub decreases-loop-h : goal.decreases-loop-h
decreases-loop-h l = length l.s - l.i
