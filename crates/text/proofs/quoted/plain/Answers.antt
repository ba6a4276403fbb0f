-- Behind the blocks, be it in the next or behind the last, every byte passed is not special.
use native.Mathlib.Omega.{arith}
use Rattle.text.proofs.Laws.Plain.{plain_more}
use Rattle.text.proofs.Laws.Reading.{seq}
use Rattle.text.proofs.quoted.plain.Goals as goal

pub overflow_sub-s : goal.overflow_sub-s
overflow_sub-s c = omega (arith, c.plain_eights-i.ensures.high)

pub plain_of_eight-requires : goal.plain_of_eight-requires
plain_of_eight-requires c = omega (arith, c.plain_eights-i.ensures.high)

pub returns-then-s-i-ge8 : goal.returns-then-s-i-ge8
returns-then-s-i-ge8 c = seq c.plain_eights-i.ensures c.plain_of_eight.ensures

pub loop-i-init : goal.loop-i-init
loop-i-init c = c.plain_eights-i.ensures

pub returns-then-special : goal.returns-then-special
returns-then-special c = c.loop-i.invariant

pub loop-i-preserved : goal.loop-i-preserved
loop-i-preserved c = plain_more c.loop-i.invariant c.loop-i-test.true
    (c.special.ensures c.if-special.false)

pub returns : goal.returns
returns c = c.loop-i.invariant
