-- A statement without rows has no such member.
use mathlib.Core.Path.{sym, ◌∙◌}
use Rattle.held.proofs.Laws.Runs.{lies_first, lies_inside}
use Rattle.writing.proofs.Laws.Showing.{adds_as, adds_then}
use Rattle.writing.proofs.Laws.Lying.{condition_none, condition_some}
use Rattle.writing.proofs.rows.put_condition.Goals as goal

pub bounds-run-at : goal.bounds-run-at
bounds-run-at c = lies_inside c.requires.lies

pub returns-then-run-at-eq0 : goal.returns-then-run-at-eq0
returns-then-run-at-eq0 c = λ xs l. condition_none xs (sym (lies_first l) ∙ c.if-run-at-eq0.true)

pub put_rows-requires : goal.put_rows-requires
put_rows-requires c = c.requires

pub returns : goal.returns
returns c =
    λ xs l. adds_as (condition_some xs (λ e. c.if-run-at-eq0.false (lies_first l ∙ e)))
    (adds_then c.put_bytes.ensures
    (adds_then (c.put_rows.ensures xs l) c.put_bytes-2.ensures))
