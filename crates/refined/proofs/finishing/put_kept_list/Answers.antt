-- Each turn passes one entry and its row, and puts it behind those before it where the row holds something.
use mathlib.Core.Path.{refl}
use native.Mathlib.Omega.{arith}
use Rattle.held.proofs.Laws.Runs.{lies_inside}
use Rattle.writing.specs.Bytes.{listed, list_bytes}
use Rattle.writing.proofs.Laws.Showing.{adds_then}
use Rattle.writing.proofs.Laws.Telling.{telling_start, telling_next, telling_end}
use Rattle.refined.specs.Finishing.{kept}
use Rattle.refined.proofs.Laws.KeepingLists.{kept_told, kept_turn, turn_lying, kept_piece}
use Rattle.refined.proofs.Laws.KeepingLists.{waiting_writ, waiting_few, waiting_ends}
use Rattle.refined.proofs.finishing.put_kept_list.Goals as goal

pub bounds-run-at : goal.bounds-run-at
bounds-run-at c = lies_inside c.requires.lies

pub overflow_add-e : goal.overflow_add-e
overflow_add-e c =
    omega (arith, lies_inside c.requires.lies, c.requires.lies.bounded)

pub loop-i-init : goal.loop-i-init
loop-i-init c = λ xs k l u. telling_start xs k l u

pub overflow_mul-a : goal.overflow_mul-a
overflow_mul-a c =
    omega (arith, waiting_ends (kept_turn c.requires c.loop-i.invariant c.loop-i-test.true).known)

pub overflow_add-to : goal.overflow_add-to
overflow_add-to c =
    omega (arith, waiting_ends (kept_turn c.requires c.loop-i.invariant c.loop-i-test.true).known)

pub offset_bounds-room-a : goal.offset_bounds-room-a
offset_bounds-room-a c =
    omega (arith, waiting_ends (kept_turn c.requires c.loop-i.invariant c.loop-i-test.true).known)

pub slice_bounds-put_next-start : goal.slice_bounds-put_next-start
slice_bounds-put_next-start c = omega arith

pub slice_bounds-put_next-end : goal.slice_bounds-put_next-end
slice_bounds-put_next-end c =
    waiting_ends (kept_turn c.requires c.loop-i.invariant c.loop-i-test.true).known

pub put_next-k-requires : goal.put_next-k-requires
put_next-k-requires c =
    let y = kept_turn c.requires c.loop-i.invariant c.loop-i-test.true in
    (record { entry = y.head; lies = y.lies; writ = waiting_writ y.known }, waiting_few y.known)

pub past_value-e-requires : goal.past_value-e-requires
past_value-e-requires c =
    turn_lying (kept_turn c.requires c.loop-i.invariant c.loop-i-test.true)

pub overflow_add-j : goal.overflow_add-j
overflow_add-j c =
    omega (arith, waiting_ends (kept_turn c.requires c.loop-i.invariant c.loop-i-test.true).known)

pub loop-i-preserved : goal.loop-i-preserved
loop-i-preserved c =
    λ xs k l u. telling_next (c.loop-i.invariant xs k l u) c.loop-i-test.true _ _ _
    (λ x ys m v. kept_piece v c.args.kind (c.loop-i.invariant xs k l u) (c.past_value-e.ensures x m)
    (c.put_next-k.ensures (record { entry = x; lies = m; writ = waiting_writ v })))

pub returns : goal.returns
unfolding list_bytes listed kept
returns c =
    λ y. adds_then c.put.ensures
    (adds_then (telling_end (kept_told y c.loop-i.invariant) c.loop-i-test.false refl)
    c.put-2.ensures)
