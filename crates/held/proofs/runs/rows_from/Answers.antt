-- Each turn passes one row; whichever rows lie at the place are the ones walked over.
use native.Mathlib.Omega.{arith}
use Rattle.held.proofs.Laws.Runs.{row_long}
use Rattle.held.proofs.Laws.RunsWalk.{walk_lying, walk_turn, walk_few, walk_end}
use Rattle.held.proofs.runs.rows_from.Goals as goal

pub row-requires : goal.row-requires
row-requires c = walk_lying (c.loop.invariant c.requires.things c.requires.count c.requires.lies) c.loop-test.true

pub then-seen-requires : goal.then-seen-requires
then-seen-requires c =
    let w = c.loop.invariant c.requires.things c.requires.count c.requires.lies in
    let v = walk_turn w c.loop-test.true _ c.row.ensures in
    omega (arith, walk_few v c.requires.lies row_long)

pub loop-preserved : goal.loop-preserved
loop-preserved c =
    λ xs k l. rw c.then-seen.ensures (walk_turn (c.loop.invariant xs k l) c.loop-test.true _ c.row.ensures)

pub returns : goal.returns
returns c = λ xs k l. walk_end (c.loop.invariant xs k l) c.loop-test.false
