-- Each turn puts one row behind those before it.
use Prim.{tt}
use mathlib.Core.Path.{refl}
use native.Mathlib.Omega.{arith}
use Rattle.held.proofs.Laws.Runs.{lies_inside}
use Rattle.held.proofs.Laws.Parts.{row_inside, row_operator}
use Rattle.writing.specs.Bytes.{rows_from}
use Rattle.writing.proofs.Laws.Telling.{telling_start, telling_lying, telling_next}
use Rattle.writing.proofs.Laws.Telling.{telling_end, list_told}
use Rattle.writing.proofs.Laws.Lying.{row_piece}
use Rattle.writing.proofs.rows.put_rows.Goals as goal

pub bounds-run-at : goal.bounds-run-at
bounds-run-at c = lies_inside c.requires.lies

pub overflow_cast-n : goal.overflow_cast-n
overflow_cast-n c = omega (arith, c.shared_slice_known-2-1.given c.args.at)

pub overflow_add-p : goal.overflow_add-p
overflow_add-p c =
    omega (arith, lies_inside c.requires.lies, c.requires.lies.bounded)

pub loop-init : goal.loop-init
loop-init c = λ xs k l u. telling_start xs k l u

pub offset_bounds-run-p : goal.offset_bounds-run-p
offset_bounds-run-p c =
    let r = telling_lying (list_told c.requires.thing c.requires.lies tt c.loop.invariant)
    c.loop-test.true in
    omega (arith, row_inside r.thing r.lies, r.lies.bounded)

pub bounds-run-p : goal.bounds-run-p
bounds-run-p c =
    let r = telling_lying (list_told c.requires.thing c.requires.lies tt c.loop.invariant)
    c.loop-test.true in
    row_inside r.thing r.lies

pub put_row-requires : goal.put_row-requires
put_row-requires c =
    telling_lying (list_told c.requires.thing c.requires.lies tt c.loop.invariant)
    c.loop-test.true

pub offset_bounds-run-p-in-loop : goal.offset_bounds-run-p-in-loop
offset_bounds-run-p-in-loop c =
    let r = telling_lying (list_told c.requires.thing c.requires.lies tt c.loop.invariant)
    c.loop-test.true in
    omega (arith, row_inside r.thing r.lies, r.lies.bounded)

pub bounds-run-p-in-loop : goal.bounds-run-p-in-loop
bounds-run-p-in-loop c =
    let r = telling_lying (list_told c.requires.thing c.requires.lies tt c.loop.invariant)
    c.loop-test.true in
    row_inside r.thing r.lies

pub row-p-requires : goal.row-p-requires
row-p-requires c =
    telling_lying (list_told c.requires.thing c.requires.lies tt c.loop.invariant)
    c.loop-test.true

pub loop-preserved : goal.loop-preserved
loop-preserved c =
    λ xs k l _. telling_next (c.loop.invariant xs k l tt) c.loop-test.true _ _ _
    (λ x ys m _. row_piece (c.loop.invariant xs k l tt) x ys (c.row-p.ensures x m).past (row_operator x m)
    c.put_turning.ensures (c.put_row.ensures x m))

pub returns : goal.returns
unfolding rows_from
returns c = λ xs l. telling_end (list_told xs l tt c.loop.invariant) c.loop-test.false refl
