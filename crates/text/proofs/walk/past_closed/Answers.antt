-- At each place, as many brackets are open as the code has counted.
use native.Mathlib.Omega.{arith}
use Rattle.text.proofs.Laws.Skipping.Walking.{stepping, closed, held_first, held_steps, held_counts}
use Rattle.text.proofs.Laws.Skipping.Walking.{held_waits, held_idles, held_later, held_again}
use borrow.Author.Rules.{rules}
use Rattle.text.proofs.walk.past_closed.Goals as goal

pub overflow_add-i : goal.overflow_add-i
overflow_add-i c = let h = (stepping (omega arith) c.requires.closes).inside in search rules

pub loop-deep-init : goal.loop-deep-init
loop-deep-init c = held_first _ _

pub past_idle-i-requires : goal.past_idle-i-requires
past_idle-i-requires c = held_waits c.loop-deep.invariant c.loop-deep-test.true c.requires

pub open_past-deep-requires : goal.open_past-deep-requires
open_past-deep-requires c =
    held_counts (held_idles c.loop-deep.invariant c.loop-deep-test.true c.past_idle-i.ensures) c.loop-deep-test.true
    c.requires

pub past_one-i-requires : goal.past_one-i-requires
past_one-i-requires c =
    held_steps (held_idles c.loop-deep.invariant c.loop-deep-test.true c.past_idle-i.ensures) c.loop-deep-test.true
    c.requires

pub loop-deep-smaller : goal.loop-deep-smaller
loop-deep-smaller c =
    let held = held_idles c.loop-deep.invariant c.loop-deep-test.true c.past_idle-i.ensures in
    let later = held_later held c.loop-deep-test.true c.requires _ c.past_one-i.ensures in
    let inside = (held_steps held c.loop-deep-test.true c.requires).inside in
    omega (arith, c.past_idle-i.ensures.low)

pub loop-deep-preserved : goal.loop-deep-preserved
loop-deep-preserved c =
    let held = held_idles c.loop-deep.invariant c.loop-deep-test.true c.past_idle-i.ensures in
    held_again held c.loop-deep-test.true c.requires _ _ c.open_past-deep.ensures c.past_one-i.ensures

pub returns : goal.returns
returns c = λ e p. closed (c.loop-deep.invariant.goes e p) (omega arith)
