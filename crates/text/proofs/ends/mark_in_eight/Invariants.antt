-- As long as none was found, no quote stands among the bytes passed.
use mathlib.Core.Path.{◌≡◌}
use mathlib.Core.Bool.{false}
use Prim.Native.Nat.{◌≤◌, ◌+◌}
use Rattle.text.specs.Seeking.{Nears}
use Rattle.text.proofs.ends.mark_in_eight.Given as goal

abbrev pub invariant-loop-j : goal.invariant-loop-j
invariant-loop-j l = (l.j ≤ 8) × (l.found ≡ false → Nears l.s l.at (l.at + l.j))
