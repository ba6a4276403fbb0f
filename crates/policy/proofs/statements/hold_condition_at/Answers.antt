-- An absent condition is no rows; one that is there is held where it stands.
use mathlib.Core.List.{[]}
use native.Mathlib.Omega.{arith}
use Rattle.syntax.specs.PolicyLayout.{condition_of}
use Rattle.held.specs.Held.{held_list, held_row}
use Rattle.policy.proofs.Laws.StatementsParts.{absent_laid, there_holdable, there_laid, there_left, no_rows}
use Rattle.parts.proofs.Laws.Formed.{none_holds}
use Rattle.syntax.specs.Members.{optional}
use Rattle.policy.proofs.statements.hold_condition_at.Goals as goal

pub returns-then-v-eq0 : goal.returns-then-v-eq0
returns-then-v-eq0 c =
    absent_laid (held_list held_row) [] condition_of no_rows (omega (arith, c.requires.roomy.room)) c.if-v-eq0.true

pub hold_condition-requires : goal.hold_condition-requires
hold_condition-requires c = there_holdable c.requires c.if-v-eq0.false

pub returns-in_err-past : goal.returns-in_err-past
returns-in_err-past c =
    λ x p. none_holds (held_list held_row) c.args.run.now _ c.args.at (optional [] condition_of x) c.from_residual.ensures
    ((there_left (held_list held_row) [] condition_of c.args.run.now _ c.args.at _ c.if-v-eq0.false
    c.hold_condition.ensures c.in_err-past.was) x p)

pub returns : goal.returns
returns c =
    there_laid (held_list held_row) [] condition_of c.args.run.now _ c.args.at _ c.if-v-eq0.false
    c.hold_condition.ensures c.in_ok-past.was
