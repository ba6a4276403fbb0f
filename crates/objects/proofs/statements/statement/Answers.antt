-- What was gathered from the first name on is the whole object, and its parts are put in order; or it is given up at a
-- name.
use mathlib.Core.Path.{◌∙◌}
use Prim.Native.Nat.{◌+◌, ◌≤◌}
use native.Mathlib.Omega.{arith}
use lib.ListN.{length}
use Rattle.straight.proofs.Laws.Reads.{opened_inside}
use Rattle.objects.proofs.Laws.Statements.{statements_proper, begun_kept, begun_low, statement_sorted, statement_taken}
use Rattle.objects.proofs.Laws.Leaving.{statement_stuck}
use Rattle.objects.proofs.statements.statement.Goals as goal

pub gathered-requires : goal.gathered-requires
gathered-requires c =
    let low : c.args.at + 2 ≤ length c.args.run.now =
    omega (arith, c.if-run-at-lt2.false, c.requires.room) in (
      statements_proper,
      (
        opened_inside c.in-Some.ensures.opened,
        record {
          room = omega (arith, begun_low low c.begun-base.ensures);
          bounded = omega (arith, c.requires.bounded, (begun_kept low c.begun-base.ensures).size);
        },
      ),
    )

pub returns-in-Err : goal.returns-in-Err
returns-in-Err c =
    let low : c.args.at + 2 ≤ length c.args.run.now =
    omega (arith, c.if-run-at-lt2.false, c.requires.room) in
    let name = c.in-Some.ensures in (
      c.in-Err.ensures.0 ∙ (begun_kept low c.begun-base.ensures).size,
      (name.opened.at, λ n h. statement_stuck name c.in-Err.ensures.1 n h),
    )

pub arranged-requires : goal.arranged-requires
arranged-requires c =
    let low : c.args.at + 2 ≤ length c.args.run.now =
    omega (arith, c.if-run-at-lt2.false, c.requires.room) in
    record { slots = _; sorted = statement_sorted low c.begun-base.ensures c.in-Ok.ensures c.in-Some-with_sid.ensures }

pub returns : goal.returns
returns c =
    let low : c.args.at + 2 ≤ length c.args.run.now =
    omega (arith, c.if-run-at-lt2.false, c.requires.room) in
    statement_taken low c.begun-base.ensures c.in-Ok.ensures c.in-Some-with_sid.ensures c.in-Some.ensures.opened
    (c.in-Some-arranged.ensures _ (statement_sorted low c.begun-base.ensures c.in-Ok.ensures c.in-Some-with_sid.ensures))
