-- As long as all were letters and digits, each character passed is one.
use mathlib.Core.Path.{◌≡◌}
use mathlib.Core.Bool.{true}
use Prim.Native.Nat.{◌≤◌, ◌-◌, ◌+◌}
use Rattle.syntax.specs.Forms.{Each, is_alphanumeric}
use Rattle.syntax.proofs.forms.alphanumeric_eight.Given as goal

abbrev pub invariant-loop-j : goal.invariant-loop-j
invariant-loop-j l = (l.j ≤ 8) × (l.all ≡ true → Each is_alphanumeric l.cs l.at (l.at + l.j))

abbrev pub decreases-loop-j : goal.decreases-loop-j
decreases-loop-j l = 8 - l.j
