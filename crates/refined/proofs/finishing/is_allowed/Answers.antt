-- A Deny is not.
use mathlib.Core.Path.{◌∙◌}
use borrow.Author.Tests.{ne_eqb}
use Rattle.held.proofs.Laws.Parts.{statement_inside, statement_effect}
use Rattle.refined.proofs.Laws.KeepingWhole.{allowed_deny, allowed_allow}
use Rattle.refined.proofs.finishing.is_allowed.Goals as goal

pub bounds-run-p : goal.bounds-run-p
bounds-run-p c = statement_inside c.requires.thing c.requires.lies

pub returns-then-run-p-eq1 : goal.returns-then-run-p-eq1
returns-then-run-p-eq1 c = λ x l. c.is_whole.ensures x l ∙ allowed_allow x (statement_effect x l) _ c.if-run-p-eq1.true

pub returns-else-run-p-eq1 : goal.returns-else-run-p-eq1
returns-else-run-p-eq1 c =
    λ x l. ne_eqb _ 1 c.if-run-p-eq1.false ∙ allowed_deny x (statement_effect x l) _ c.if-run-p-eq1.false
