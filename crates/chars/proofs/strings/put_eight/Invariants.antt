-- Each turn puts one byte more.
use Prim.Native.Nat.{◌≤◌, ◌-◌, ◌+◌}
use Rattle.chars.specs.Steps.{Moves}
use Rattle.chars.proofs.strings.put_eight.Given as goal

abbrev pub invariant-loop-j : goal.invariant-loop-j
invariant-loop-j l =
    (l.j ≤ 8) × (Moves l.s l.initial.out l.out l.at l.n (l.at + l.j))

abbrev pub decreases-loop-j : goal.decreases-loop-j
decreases-loop-j l =
    8 - l.j
