-- An absent Sid is a text of no characters; one that is there is held where it stands.
use mathlib.Core.Path.{refl}
use mathlib.Core.List.{[]}
use native.Mathlib.Omega.{arith}
use Rattle.syntax.specs.PolicyLayout.{sid_of}
use Rattle.held.specs.Held.{held_text}
use Rattle.policy.proofs.Laws.StatementsParts.{absent_laid, there_holdable, there_laid, there_left}
use Rattle.parts.proofs.Laws.Formed.{none_holds}
use Rattle.syntax.specs.Members.{optional}
use Rattle.policy.proofs.statements.hold_sid_at.Goals as goal

pub returns-then-v-eq0 : goal.returns-then-v-eq0
returns-then-v-eq0 c =
    absent_laid held_text [] sid_of refl (omega (arith, c.requires.roomy.room)) c.if-v-eq0.true

pub hold_sid-requires : goal.hold_sid-requires
hold_sid-requires c = there_holdable c.requires c.if-v-eq0.false

pub returns-in_err-past : goal.returns-in_err-past
returns-in_err-past c =
    λ x p. none_holds held_text c.args.run.now _ c.args.at (optional [] sid_of x) c.from_residual.ensures
    ((there_left held_text [] sid_of c.args.run.now _ c.args.at _ c.if-v-eq0.false
    c.hold_sid.ensures c.in_err-past.was) x p)

pub returns : goal.returns
returns c =
    there_laid held_text [] sid_of c.args.run.now _ c.args.at _ c.if-v-eq0.false
    c.hold_sid.ensures c.in_ok-past.was
