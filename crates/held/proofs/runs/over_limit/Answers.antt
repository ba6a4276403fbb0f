-- Each turn passes one statement; whichever policy lies in the run is the one walked over.
use native.Mathlib.Omega.{arith}
use Rattle.held.proofs.Laws.RunsWalk.{walk_lying, walk_turn, walk_few, walk_end}
use Rattle.held.proofs.Laws.RunsStatement.{statement_long, policy_inside, policy_count, policy_lies}
use Rattle.held.proofs.Laws.RunsStatement.{policy_over}
use Rattle.held.proofs.runs.over_limit.Goals as goal

pub bounds-run-0 : goal.bounds-run-0
bounds-run-0 c = policy_inside c.requires.thing c.requires.lies

pub statement-requires : goal.statement-requires
statement-requires c =
    let x = c.requires.thing in
    let l = c.requires.lies in
    walk_lying (c.loop.invariant x (policy_count x l) (policy_lies x l)) c.loop-test.true

pub then-seen-requires : goal.then-seen-requires
then-seen-requires c =
    let x = c.requires.thing in
    let l = c.requires.lies in
    let w = c.loop.invariant x (policy_count x l) (policy_lies x l) in
    let v = walk_turn w c.loop-test.true _ c.statement.ensures in
    omega (arith, walk_few v (policy_lies x l) statement_long)

pub loop-preserved : goal.loop-preserved
loop-preserved c =
    λ xs k l. rw c.then-seen.ensures (walk_turn (c.loop.invariant xs k l) c.loop-test.true _ c.statement.ensures)

pub returns : goal.returns
returns c =
    λ x l.
    let q = walk_end (c.loop.invariant x (policy_count x l) (policy_lies x l)) c.loop-test.false in
    policy_over x (policy_count x l) q.many q.limit
