-- Each turn passes one row that has an entry left.
use native.Mathlib.Omega.{arith}
use Rattle.held.proofs.Laws.Runs.{lies_inside}
use Rattle.refined.specs.Finishing.{kept_rows, all_some}
use Rattle.refined.proofs.Laws.KeepingTests.{looking_start, list_looked, looking_lying, sight}
use Rattle.refined.proofs.Laws.KeepingTests.{looking_decided, looking_next, looking_end, rows_count}
use Rattle.refined.proofs.Laws.KeepingTests.{rows_none, rows_on}
use Rattle.refined.proofs.finishing.rows_some.Goals as goal

pub bounds-run-at : goal.bounds-run-at
bounds-run-at c = lies_inside c.requires.lies

pub overflow_add-p : goal.overflow_add-p
overflow_add-p c =
    omega (arith, lies_inside c.requires.lies, c.requires.lies.bounded)

pub loop-i-init : goal.loop-i-init
loop-i-init c = λ xs k l. looking_start xs k l

pub row-r-requires : goal.row-r-requires
row-r-requires c =
    looking_lying (list_looked c.requires.thing c.requires.lies c.loop-i.invariant) c.loop-i-test.true

pub has_some-requires : goal.has_some-requires
has_some-requires c =
    let y = sight (list_looked c.requires.thing c.requires.lies c.loop-i.invariant) c.requires.enough
    c.loop-i-test.true in
    omega (arith, y.enough, rows_count y.head y.tail (c.row-r.ensures y.head y.lies).many)

pub returns-then-not-has_some : goal.returns-then-not-has_some
returns-then-not-has_some c =
    λ xs l. looking_decided (list_looked xs l c.loop-i.invariant) c.loop-i-test.true _
    (λ x ys m. rows_none _ x ys (c.has_some.ensures x.entries (c.row-r.ensures x m).many)
    c.if-not-has_some.true)

pub overflow_add-a : goal.overflow_add-a
overflow_add-a c =
    let y = sight (list_looked c.requires.thing c.requires.lies c.loop-i.invariant) c.requires.enough
    c.loop-i-test.true in
    omega (arith, y.enough, rows_count y.head y.tail (c.row-r.ensures y.head y.lies).many)

pub loop-i-preserved : goal.loop-i-preserved
loop-i-preserved c =
    λ xs k l. looking_next (c.loop-i.invariant xs k l) c.loop-i-test.true _ _
    (λ x m. (c.row-r.ensures x m).past)
    (λ x ys m. rows_on _ _ x ys (c.row-r.ensures x m).many
    (c.has_some.ensures x.entries (c.row-r.ensures x m).many) c.if-not-has_some.false)
    (λ x ys m. rows_count x ys (c.row-r.ensures x m).many)

pub returns : goal.returns
unfolding kept_rows all_some
returns c = λ xs l. looking_end (list_looked xs l c.loop-i.invariant) c.loop-i-test.false
