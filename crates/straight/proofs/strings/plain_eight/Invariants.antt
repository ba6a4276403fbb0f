-- As long as all were plain, the bytes passed stand for themselves.
use mathlib.Core.Path.{◌≡◌}
use mathlib.Core.Bool.{true}
use Prim.Native.Nat.{◌≤◌, ◌-◌, ◌+◌}
use Rattle.chars.specs.Base.{part}
use Rattle.straight.specs.Marks.{all_bare}
use Rattle.straight.proofs.strings.plain_eight.Given as goal

abbrev pub invariant-loop-j : goal.invariant-loop-j
invariant-loop-j l = (l.j ≤ 8) × (l.all ≡ true → all_bare (part l.s l.at (l.at + l.j)) ≡ true)

abbrev pub decreases-loop-j : goal.decreases-loop-j
decreases-loop-j l = 8 - l.j
