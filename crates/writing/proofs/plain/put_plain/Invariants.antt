-- Behind what was put by eights each turn puts one character that was tested and for which there is room.
use mathlib.Core.List.{List}
use Prim.Native.Nat.{ℕ, ◌-◌}
use lib.ListN.{length}
use Rattle.writing.specs.Plain.{PlainPut}
use Rattle.writing.proofs.plain.put_plain.Given as goal

abbrev pub invariant-loop-n : goal.invariant-loop-n
invariant-loop-n l = (out : List ℕ) → PlainPut l.ys l.initial.n out l.initial.out → PlainPut l.ys l.n out l.out

abbrev pub decreases-loop-n : goal.decreases-loop-n
decreases-loop-n l = length l.ys - l.n
