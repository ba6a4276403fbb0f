-- Each turn strikes one character off the text and one byte off w.
use Prim.Native.Nat.{◌≤◌}
use lib.ListN.{length}
use Rattle.chars.specs.Steps.{Match}
use Rattle.chars.proofs.strings.same_each.Given as goal

abbrev pub invariant-loop-b : goal.invariant-loop-b
invariant-loop-b l =
    (l.i ≤ length l.s) × (Match l.s l.w l.i l.b-index)
