-- Each turn puts one plain byte more.
use mathlib.Core.Path.{◌≡◌}
use Prim.Native.Nat.{◌-◌, ◌+◌}
use lib.ListN.{length}
use Rattle.chars.specs.Steps.{Moves}
use Rattle.chars.proofs.strings.put_plain.Given as goal

abbrev pub invariant-loop-i : goal.invariant-loop-i
invariant-loop-i l =
    (l.n ≡ l.from + (l.i - l.at)) × (Moves l.s l.fn.out l.out l.at l.from l.i)

abbrev pub decreases-loop-i : goal.decreases-loop-i
decreases-loop-i l =
    length l.s - l.i
