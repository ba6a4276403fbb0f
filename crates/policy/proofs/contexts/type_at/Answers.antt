-- An absent member names no type.
use mathlib.Core.Path.{sym, ap, ◌∙◌, subst}
use Rattle.parts.specs.Requests.{type_of, TypesTo}
use Rattle.parts.proofs.Laws.Requests.Members.{placed_absent, placed_found}
use Rattle.policy.proofs.contexts.type_at.Goals as goal

pub returns-then-v-eq0 : goal.returns-then-v-eq0
returns-then-v-eq0 c = λ x p. sym (ap type_of (placed_absent p c.if-v-eq0.true))

pub type_at-requires : goal.type_at-requires
type_at-requires c =
    let f = placed_found c.requires.is c.if-v-eq0.false in record { what = f.what; stop = f.stop; is = f.at }

pub returns-in_err-t : goal.returns-in_err-t
returns-in_err-t c =
    λ x p. let f = placed_found p c.if-v-eq0.false in
    c.from_residual.ensures
    ∙ sym (ap type_of f.is ∙ subst (TypesTo f.what f.stop) c.in_err-t.was (c.type_at.ensures _ _ f.at))

pub returns : goal.returns
returns c =
    λ x p. let f = placed_found p c.if-v-eq0.false in
    (subst (TypesTo f.what f.stop) c.in_ok-t.was (c.type_at.ensures _ _ f.at)).is ∙ sym (ap type_of f.is)
