-- Each turn passes one value; whichever values lie at the place are the ones walked over.
use mathlib.Core.Path.{◌∙◌}
use native.Mathlib.Omega.{arith}
use Rattle.held.proofs.Laws.Runs.{value_long}
use Rattle.held.proofs.Laws.RunsWalk.{walk_lying, walk_turn, walk_few, walk_end, one_each}
use Rattle.held.proofs.runs.values.Goals as goal

pub value-requires : goal.value-requires
value-requires c = walk_lying (c.loop.invariant c.requires.things c.requires.count c.requires.lies) c.loop-test.true

pub then-seen-requires : goal.then-seen-requires
then-seen-requires c =
    let w = c.loop.invariant c.requires.things c.requires.count c.requires.lies in
    let v = walk_turn w c.loop-test.true _ c.value.ensures in
    omega (arith, walk_few v c.requires.lies value_long)

pub loop-preserved : goal.loop-preserved
loop-preserved c =
    λ xs k l. rw c.then-seen.ensures (walk_turn (c.loop.invariant xs k l) c.loop-test.true _ c.value.ensures)

pub returns : goal.returns
returns c =
    λ xs k l.
    let q = walk_end (c.loop.invariant xs k l) c.loop-test.false in
    record { past = q.past; many = q.many ∙ one_each xs; limit = q.limit }
