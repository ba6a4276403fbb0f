-- Each turn lays the plain bytes and one character more over the run, and goes on behind them.
use Prim.Native.Nat.{◌≤◌, ◌-◌}
use lib.ListN.{length}
use Rattle.chars.specs.Steps.{Sofar}
use Rattle.chars.proofs.strings.decode.Given as goal

abbrev pub invariant-loop-end : goal.invariant-loop-end
invariant-loop-end l =
    (l.i ≤ length l.s) × (Sofar l.s l.initial.out l.out l.i l.n)

abbrev pub decreases-loop-end : goal.decreases-loop-end
decreases-loop-end l =
    length l.s - l.i
