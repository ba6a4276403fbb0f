-- As many as were passed are plain where they were all counted.
use mathlib.Core.Path.{◌≡◌}
use Prim.Native.Nat.{◌≤◌}
use lib.ListN.{take}
use Rattle.writing.specs.Plain.{AllPlain}
use Rattle.writing.proofs.plain.plain_eight.Given as goal

abbrev pub invariant-loop-j : goal.invariant-loop-j
invariant-loop-j l = (l.n ≤ l.j) × (l.n ≡ l.j → AllPlain (take l.j l.ys))
