-- Each turn puts one row behind those before it.
use mathlib.Core.Path.{refl}
use native.Mathlib.Omega.{arith}
use Rattle.held.proofs.Laws.Runs.{lies_inside}
use Rattle.held.proofs.Laws.Parts.{row_inside, row_operator}
use Rattle.writing.specs.Bytes.{rows_from}
use Rattle.writing.proofs.Laws.Telling.{telling_start, telling_next, telling_end}
use Rattle.refined.specs.Finishing.{kept_rows}
use Rattle.refined.proofs.Laws.KeepingLists.{turn_lying}
use Rattle.refined.proofs.Laws.KeepingRows.{rows_told, rows_turn, row_ready, row_few}
use Rattle.refined.proofs.Laws.KeepingRows.{kept_row_piece}
use Rattle.refined.proofs.finishing.put_kept_rows.Goals as goal

pub bounds-run-at : goal.bounds-run-at
bounds-run-at c = lies_inside c.requires.lies

pub overflow_add-p : goal.overflow_add-p
overflow_add-p c =
    omega (arith, lies_inside c.requires.lies, c.requires.lies.bounded)

pub loop-i-init : goal.loop-i-init
loop-i-init c = λ xs k l u. telling_start xs k l u

pub offset_bounds-run-p : goal.offset_bounds-run-p
offset_bounds-run-p c =
    let y = rows_turn c.requires c.loop-i.invariant c.loop-i-test.true in omega
    (arith, row_inside y.head y.lies, y.lies.bounded)

pub bounds-run-p : goal.bounds-run-p
bounds-run-p c =
    let y = rows_turn c.requires c.loop-i.invariant c.loop-i-test.true in row_inside y.head
    y.lies

pub put_kept_row-requires : goal.put_kept_row-requires
put_kept_row-requires c =
    let y = rows_turn c.requires c.loop-i.invariant c.loop-i-test.true in record
    { thing = y.head; lies = y.lies; ready = row_ready y.known }

pub offset_bounds-run-p-in-loop-i : goal.offset_bounds-run-p-in-loop-i
offset_bounds-run-p-in-loop-i c =
    let y = rows_turn c.requires c.loop-i.invariant c.loop-i-test.true in omega
    (arith, row_inside y.head y.lies, y.lies.bounded)

pub bounds-run-p-in-loop-i : goal.bounds-run-p-in-loop-i
bounds-run-p-in-loop-i c =
    let y = rows_turn c.requires c.loop-i.invariant c.loop-i-test.true in row_inside y.head
    y.lies

pub row-r-requires : goal.row-r-requires
row-r-requires c =
    turn_lying (rows_turn c.requires c.loop-i.invariant c.loop-i-test.true)

pub overflow_add-a : goal.overflow_add-a
overflow_add-a c =
    let y = rows_turn c.requires c.loop-i.invariant c.loop-i-test.true in omega
    (arith, row_few y.known (c.row-r.ensures y.head y.lies).many)

pub loop-i-preserved : goal.loop-i-preserved
loop-i-preserved c =
    λ xs k l u. telling_next (c.loop-i.invariant xs k l u) c.loop-i-test.true _ _ _
    (λ x ys m v. kept_row_piece v (c.loop-i.invariant xs k l u) (c.row-r.ensures x m).past (row_operator x m)
    (c.row-r.ensures x m).many c.put_turning.ensures
    (c.put_kept_row.ensures (record { thing = x; lies = m; ready = row_ready v })))

pub returns : goal.returns
unfolding rows_from kept_rows
returns c = λ y. telling_end (rows_told y c.loop-i.invariant) c.loop-i-test.false refl
