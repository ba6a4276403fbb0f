-- Each turn stores one byte.
use mathlib.Core.Path.{ap, ◌∙◌}
use mathlib.Core.List.{List}
use Prim.Native.Nat.{ℕ}
use native.Mathlib.Omega.{arith}
use lib.Seq.{take-length}
use Rattle.chars.specs.Putting.{lay}
use Rattle.writing.proofs.Laws.Copying.{copied_start, copied_next, copied_length, copied_end}
use Rattle.restate.proofs.operations.copy.Goals as goal

pub loop-i-init : goal.loop-i-init
loop-i-init c = copied_start _ _ _ (omega arith)

pub bounds-out-i : goal.bounds-out-i
bounds-out-i c = omega (arith, c.loop-i-test.true, c.requires, copied_length c.loop-i.invariant)

pub loop-i-preserved : goal.loop-i-preserved
loop-i-preserved c = copied_next c.loop-i.invariant c.loop-i-test.true

pub returns : goal.returns
returns c =
    copied_end c.loop-i.invariant (omega (arith, c.loop-i-test.false)) ∙ ap (λ (l : List ℕ). lay l c.args.out.now)
    (take-length _)
