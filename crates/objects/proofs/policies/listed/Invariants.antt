-- Each turn passes one statement behind those before it, whose Sid none of them has; behind the last the list ends.
use Prim.Native.Nat.{◌-◌}
use lib.ListN.{length}
use Rattle.objects.proofs.Laws.Listed.{Listing}
use Rattle.objects.proofs.policies.listed.Given as goal

abbrev pub invariant-loop-h : goal.invariant-loop-h
invariant-loop-h l = Listing l.s l.v l.initial.run l.at l.i l.run l.places l.p l.n

abbrev pub decreases-loop-h : goal.decreases-loop-h
decreases-loop-h l = length l.s - l.i
