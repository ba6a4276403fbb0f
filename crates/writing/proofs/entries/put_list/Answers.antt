-- Each turn puts one entry behind those before it; whichever entries lie at the place are the ones put.
use Prim.{tt}
use mathlib.Core.Path.{refl}
use native.Mathlib.Omega.{arith}
use Rattle.held.proofs.Laws.Runs.{lies_inside}
use Rattle.writing.specs.Bytes.{listed, list_bytes}
use Rattle.writing.proofs.Laws.Showing.{adds_then}
use Rattle.writing.proofs.Laws.Telling.{telling_start, telling_lying, telling_next}
use Rattle.writing.proofs.Laws.Telling.{telling_end, list_told}
use Rattle.writing.proofs.Laws.Lying.{listed_piece}
use Rattle.writing.proofs.entries.put_list.Goals as goal

pub bounds-run-at : goal.bounds-run-at
bounds-run-at c = lies_inside c.requires.lies

pub overflow_cast-n : goal.overflow_cast-n
overflow_cast-n c = omega (arith, c.shared_slice_known-2-1.given c.args.at)

pub overflow_add-e : goal.overflow_add-e
overflow_add-e c =
    omega (arith, lies_inside c.requires.lies, c.requires.lies.bounded)

pub loop-i-init : goal.loop-i-init
loop-i-init c = λ xs k l u. telling_start xs k l u

pub put_entry-requires : goal.put_entry-requires
put_entry-requires c =
    telling_lying (list_told c.requires.thing c.requires.lies tt c.loop-i.invariant)
    c.loop-i-test.true

pub past_value-e-requires : goal.past_value-e-requires
past_value-e-requires c =
    telling_lying (list_told c.requires.thing c.requires.lies tt c.loop-i.invariant)
    c.loop-i-test.true

pub loop-i-preserved : goal.loop-i-preserved
loop-i-preserved c =
    λ xs k l _. telling_next (c.loop-i.invariant xs k l tt) c.loop-i-test.true _ _ _
    (λ x ys m _. listed_piece _ (c.loop-i.invariant xs k l tt) x ys (c.past_value-e.ensures x m)
    c.put_between.ensures (c.put_entry.ensures x m))

pub returns : goal.returns
unfolding list_bytes listed
returns c =
    λ xs l. adds_then c.put.ensures
    (adds_then (telling_end (list_told xs l tt c.loop-i.invariant) c.loop-i-test.false refl)
    c.put-2.ensures)
