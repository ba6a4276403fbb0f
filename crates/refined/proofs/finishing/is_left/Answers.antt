-- A Deny is.
use mathlib.Core.Path.{ap, ◌∙◌}
use mathlib.Core.Bool.{not}
use borrow.Author.Tests.{ne_eqb}
use Rattle.held.proofs.Laws.Parts.{statement_inside, statement_effect}
use Rattle.refined.proofs.Laws.KeepingWhole.{is_left_deny, is_left_allow}
use Rattle.refined.proofs.finishing.is_left.Goals as goal

pub bounds-run-p : goal.bounds-run-p
bounds-run-p c = statement_inside c.requires.thing c.requires.lies

pub returns-then-run-p-ne1 : goal.returns-then-run-p-ne1
returns-then-run-p-ne1 c =
    λ x l. ap not (ne_eqb _ 1 c.if-run-p-ne1.true) ∙ is_left_deny x (statement_effect x l) _ c.if-run-p-ne1.true

pub returns-else-run-p-ne1 : goal.returns-else-run-p-ne1
returns-else-run-p-ne1 c = λ x l. c.is_whole.ensures x l ∙ is_left_allow x (statement_effect x l) _ c.if-run-p-ne1.false
