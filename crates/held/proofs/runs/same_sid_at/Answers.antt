-- The Sids lie where their statements' second numbers say; one of no characters is none.
use mathlib.Core.Path.{◌∙◌}
use native.Mathlib.Omega.{arith}
use Rattle.syntax.specs.Forms.{same}
use Rattle.held.proofs.Laws.Runs.{named_both}
use Rattle.held.proofs.Laws.RunsStatement.{statement_named, sid_none, sid_some}
use Rattle.held.proofs.runs.same_sid_at.Goals as goal

pub bounds-run-p : goal.bounds-run-p
bounds-run-p c =
    (statement_named c.requires.0.thing c.requires.0.lies).inside

pub returns-then-from-to : goal.returns-then-from-to
returns-then-from-to c = λ x y l m. sid_none x y (omega (arith, (statement_named x l).count, c.if-from-to.true))

pub bounds-run-q : goal.bounds-run-q
bounds-run-q c =
    (statement_named c.requires.1.thing c.requires.1.lies).inside

pub slice_bounds-same_text-end : goal.slice_bounds-same_text-end
slice_bounds-same_text-end c =
    (statement_named c.requires.0.thing c.requires.0.lies).ends

pub slice_bounds-same_text-end-2 : goal.slice_bounds-same_text-end-2
slice_bounds-same_text-end-2 c =
    (statement_named c.requires.1.thing c.requires.1.lies).ends

pub returns : goal.returns
returns c =
    λ x y l m.
    c.same_text.ensures
    ∙ named_both same (statement_named x l) (statement_named y m)
    ∙ sid_some x y (omega (arith, (statement_named x l).count, c.if-from-to.false))
