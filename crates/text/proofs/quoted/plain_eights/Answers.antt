-- Every block passed has nothing special.
use native.Mathlib.Omega.{arith}
use Rattle.text.proofs.Laws.Reading.{stay, seq}
use Rattle.text.proofs.quoted.plain_eights.Goals as goal

pub loop-i-init : goal.loop-i-init
loop-i-init c = stay _ _ _ c.requires

pub overflow_sub-s : goal.overflow_sub-s
overflow_sub-s c = omega (arith, c.loop-i.invariant.high)

pub special_in_eight-requires : goal.special_in_eight-requires
special_in_eight-requires c = omega (arith, c.loop-i.invariant.high)

pub returns-then-special_in_eight : goal.returns-then-special_in_eight
returns-then-special_in_eight c = c.loop-i.invariant

pub loop-i-preserved : goal.loop-i-preserved
loop-i-preserved c = seq c.loop-i.invariant (c.special_in_eight.ensures c.if-special_in_eight.false)

pub returns : goal.returns
returns c = c.loop-i.invariant
