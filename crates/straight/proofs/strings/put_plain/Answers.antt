-- Behind what was put by eights each turn puts one byte that was tested and for which there is room.
use mathlib.Core.Path.{refl}
use native.Mathlib.Omega.{arith}
use Rattle.straight.proofs.Laws.Strings.{puts_next}
use Rattle.straight.proofs.strings.put_plain.Goals as goal

pub loop-n-preserved : goal.loop-n-preserved
loop-n-preserved c =
    λ r p. puts_next (c.loop-n.invariant r p) (omega (arith, c.loop-n-test.true))
    (omega (arith, c.if-n-run.true))
    (c.plain.ensures c.if-plain.true) refl
