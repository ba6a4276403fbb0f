-- A statement without rows has no such member.
use mathlib.Core.Path.{sym, ◌∙◌}
use Rattle.held.proofs.Laws.Runs.{lies_first, lies_inside}
use Rattle.writing.proofs.Laws.Showing.{adds_as, adds_then}
use Rattle.writing.proofs.Laws.Lying.{condition_none, condition_some}
use Rattle.refined.specs.Finishing.{kept_rows}
use Rattle.refined.proofs.Laws.KeepingRows.{kept_rows_many}
use Rattle.refined.proofs.finishing.put_kept_condition.Goals as goal

pub bounds-run-at : goal.bounds-run-at
bounds-run-at c = lies_inside c.requires.lies

pub returns-then-run-at-eq0 : goal.returns-then-run-at-eq0
returns-then-run-at-eq0 c =
    λ y. condition_none (kept_rows y.thing _)
    (kept_rows_many y.thing _ ∙ sym (lies_first y.lies) ∙ c.if-run-at-eq0.true)

pub returns : goal.returns
returns c =
    λ y. adds_as (condition_some (kept_rows y.thing _)
    (λ e. c.if-run-at-eq0.false (lies_first y.lies ∙ sym (kept_rows_many y.thing _) ∙ e)))
    (adds_then c.put_bytes.ensures
    (adds_then (c.put_kept_rows.ensures y) c.put_bytes-2.ensures))
