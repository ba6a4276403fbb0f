-- Each turn copies one part behind those before it; the parts themselves lie before all of that.
use Prim.Native.Nat.{◌≤◌, ◌-◌}
use Rattle.objects.proofs.Laws.Settling.{Copying}
use Rattle.objects.proofs.settling.copied.Given as goal

abbrev pub invariant-loop-n : goal.invariant-loop-n
invariant-loop-n l = (l.n ≤ l.last) × (Copying l.initial.run l.run l.spans l.first l.n l.p)

abbrev pub decreases-loop-n : goal.decreases-loop-n
decreases-loop-n l = l.last - l.n
