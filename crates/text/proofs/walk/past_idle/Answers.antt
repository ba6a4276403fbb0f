-- The bytes passed open and close nothing, and a bracket is open, so the text goes on.
use native.Mathlib.Omega.{arith}
use Rattle.text.proofs.Laws.Skipping.Walking.{idles_none, idles_more, idles_inside}
use borrow.Author.Rules.{rules}
use Rattle.text.proofs.walk.past_idle.Goals as goal

pub loop-i-init : goal.loop-i-init
loop-i-init c = idles_none

pub bounds-s-i : goal.bounds-s-i
bounds-s-i c = idles_inside c.requires c.loop-i.invariant

pub overflow_add-i : goal.overflow_add-i
overflow_add-i c =
    let h = idles_inside c.requires c.loop-i.invariant in
    search rules

pub loop-i-smaller : goal.loop-i-smaller
loop-i-smaller c =
    let h = idles_inside c.requires c.loop-i.invariant in
    omega arith

pub loop-i-preserved : goal.loop-i-preserved
loop-i-preserved c = idles_more c.loop-i.invariant (c.idle.ensures c.loop-i-test.true)

pub returns : goal.returns
returns c = c.loop-i.invariant
