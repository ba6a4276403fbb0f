-- Each turn passes one member; what it held is noted by its word.
use Prim.Native.Nat.{◌-◌}
use lib.ListN.{length}
use Rattle.objects.specs.Leaving.{Came}
use Rattle.objects.proofs.Laws.Gathering.{Gathering}
use Rattle.objects.proofs.gathering.gathered.Given as goal

abbrev pub invariant-loop-turn : goal.invariant-loop-turn
invariant-loop-turn g l =
    (Gathering g.L.Layout.kinded l.s l.initial.run l.run l.first l.at l.i l.p l.spans) × (Came g.L.Layout.kinded.levels l.s l.first l.i)

abbrev pub decreases-loop-turn : goal.decreases-loop-turn
decreases-loop-turn g l = length l.s - l.i
