-- Every block passed has no mark.
use native.Mathlib.Omega.{arith}
use Rattle.text.proofs.Laws.Seeking.{nears_none, nears_seq}
use Rattle.text.proofs.ends.unmarked_eights.Goals as goal

pub loop-i-init : goal.loop-i-init
loop-i-init c = nears_none c.requires

pub overflow_sub-s : goal.overflow_sub-s
overflow_sub-s c = omega (arith, c.loop-i.invariant.high)

pub mark_in_eight-requires : goal.mark_in_eight-requires
mark_in_eight-requires c = omega (arith, c.loop-i.invariant.high)

pub returns-then-mark_in_eight : goal.returns-then-mark_in_eight
returns-then-mark_in_eight c = c.loop-i.invariant

pub loop-i-preserved : goal.loop-i-preserved
loop-i-preserved c = nears_seq c.loop-i.invariant (c.mark_in_eight.ensures c.if-mark_in_eight.false)

pub returns : goal.returns
returns c = c.loop-i.invariant
