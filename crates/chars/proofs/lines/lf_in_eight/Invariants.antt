-- As long as none was found, the line ends where it did.
use mathlib.Core.Path.{◌≡◌}
use mathlib.Core.Bool.{false}
use Prim.Native.Nat.{◌≤◌, ◌-◌, ◌+◌}
use lib.ListN.{drop}
use Rattle.chars.specs.Lines.{unbroken}
use Rattle.chars.proofs.lines.lf_in_eight.Given as goal

abbrev pub invariant-loop-j : goal.invariant-loop-j
invariant-loop-j l =
    (l.j ≤ 8) × (l.found ≡ false → l.at + l.j + unbroken (drop (l.at + l.j) l.s) ≡ l.at + unbroken (drop l.at l.s))

abbrev pub decreases-loop-j : goal.decreases-loop-j
decreases-loop-j l =
    8 - l.j
