-- Behind what was put by eights each turn puts one character that was tested and for which there is room.
use native.Mathlib.Omega.{arith}
use Rattle.writing.proofs.Laws.Plain.{put_next}
use Rattle.writing.proofs.plain.put_plain.Goals as goal

pub loop-n-init : goal.loop-n-init
loop-n-init c = λ out w. w

pub overflow_cast-out : goal.overflow_cast-out
overflow_cast-out c =
    let p = c.plain.ensures c.if-plain.true in record { fits = omega (arith, p.small) }

pub loop-n-preserved : goal.loop-n-preserved
loop-n-preserved c =
    λ out w. put_next (c.loop-n.invariant out w) (omega arith) (omega arith) (c.plain.ensures c.if-plain.true)

pub returns-else-plain : goal.returns-else-plain
returns-else-plain c = c.loop-n.invariant _ c.put_eights-n.ensures

pub returns-else-n-out : goal.returns-else-n-out
returns-else-n-out c = c.loop-n.invariant _ c.put_eights-n.ensures

pub returns-after-loop-n : goal.returns-after-loop-n
returns-after-loop-n c = c.loop-n.invariant _ c.put_eights-n.ensures
