-- Each turn passes one entry behind those before it, whose key none of them has; behind the last the list ends.
use Prim.Native.Nat.{◌-◌}
use lib.ListN.{length}
use Rattle.straight.proofs.Laws.Differing.{Differing}
use Rattle.objects.proofs.Laws.Contexts.{entries}
use Rattle.objects.proofs.contexts.differing.Given as goal

abbrev pub invariant-loop-h : goal.invariant-loop-h
invariant-loop-h l = Differing entries l.s l.v l.initial.run l.at l.i l.run l.past l.count

abbrev pub decreases-loop-h : goal.decreases-loop-h
decreases-loop-h l = length l.s - l.i
