-- Each turn puts one byte behind those before it, until they are eight.
use Prim.Native.Nat.{◌≤◌, ◌-◌, ◌+◌}
use Rattle.chars.specs.Base.{part}
use Rattle.parts.specs.Holding.{Extends}
use Rattle.straight.proofs.strings.put_eight.Given as goal

abbrev pub invariant-loop-j : goal.invariant-loop-j
invariant-loop-j l = (l.j ≤ 8) × (Extends l.initial.run l.run l.to (part l.s l.at (l.at + l.j)) (l.to + l.j))

abbrev pub decreases-loop-j : goal.decreases-loop-j
decreases-loop-j l = 8 - l.j
