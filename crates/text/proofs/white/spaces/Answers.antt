-- Every block passed is white space.
use native.Mathlib.Omega.{arith}
use Rattle.text.proofs.Laws.Reading.{stay, seq}
use Rattle.text.proofs.white.spaces.Goals as goal

pub loop-i-init : goal.loop-i-init
loop-i-init c = stay _ _ _ c.requires

pub overflow_sub-s : goal.overflow_sub-s
overflow_sub-s c = omega (arith, c.loop-i.invariant.high)

pub four_spaces-requires : goal.four_spaces-requires
four_spaces-requires c = omega (arith, c.loop-i.invariant.high)

pub returns-then-not-four_spaces : goal.returns-then-not-four_spaces
returns-then-not-four_spaces c = c.loop-i.invariant

pub loop-i-preserved : goal.loop-i-preserved
loop-i-preserved c =
    seq c.loop-i.invariant (c.four_spaces.ensures c.if-not-four_spaces.false)

pub returns : goal.returns
returns c = c.loop-i.invariant
