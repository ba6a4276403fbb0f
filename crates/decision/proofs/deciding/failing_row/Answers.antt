-- Each row passed holds; whichever rows lie in the list are the ones tried.
use mathlib.Core.Path.{ap, ◌∙◌}
use Prim.Native.Nat.{◌+◌}
use native.Mathlib.Omega.{arith}
use Rattle.decision.specs.Decision.{rows_from}
use Rattle.decision.specs.Deciding.{told_part}
use Rattle.held.proofs.Laws.Runs.{lies_inside}
use Rattle.held.proofs.Laws.Coming.{coming_list, lying, coming_lying, coming_now, coming_next}
use Rattle.held.proofs.Laws.Coming.{coming_end}
use Rattle.decision.proofs.Laws.DecidingRows.{row_fails, row_passed, rows_over_lem}
use Rattle.decision.proofs.deciding.failing_row.Goals as goal

pub bounds-policy-at : goal.bounds-policy-at
bounds-policy-at c = lies_inside c.requires.0.lies

pub overflow_add-p : goal.overflow_add-p
overflow_add-p c =
    omega (arith, lies_inside c.requires.0.lies, c.requires.0.lies.bounded)

pub loop-i-init : goal.loop-i-init
loop-i-init c = λ l cs. coming_list l

pub row_result-requires : goal.row_result-requires
row_result-requires c =
    (coming_lying (c.loop-i.invariant c.requires.0 c.requires.1) c.loop-i-test.true, c.requires.1)

pub returns-in-Some : goal.returns-in-Some
returns-in-Some c =
    λ xs cs l m.
    let y = coming_now (c.loop-i.invariant (lying xs l) (lying cs m)) c.loop-i-test.true in
    let why = c.row_result.ensures y.head cs y.lies m in
    row_fails (c.loop-i.i + 1) y.head y.tail cs why c.in-Some.is ∙ ap told_part y.same

pub row-p-requires : goal.row-p-requires
row-p-requires c =
    coming_lying (c.loop-i.invariant c.requires.0 c.requires.1) c.loop-i-test.true

pub loop-i-preserved : goal.loop-i-preserved
loop-i-preserved c =
    λ l cs.
    let k = c.loop-i.i + 1 in
    coming_next (c.loop-i.invariant l cs) c.loop-i-test.true _ (λ rs. rows_from (k + 1) rs cs.thing)
    (λ x z. (c.row-p.ensures x z).past)
    (λ x z zs.
    let why = c.row_result.ensures x cs.thing z cs.lies in
    row_passed k x zs cs.thing why c.in_default.is)

pub returns : goal.returns
returns c =
    λ xs cs l m.
    rows_over_lem (c.loop-i.i + 1) cs
    ∙ ap told_part (coming_end (c.loop-i.invariant (lying xs l) (lying cs m)) c.loop-i-test.false)
