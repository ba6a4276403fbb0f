-- A string's part between the quotes names the type, and the string ends behind its last quote.
-- whatever stands there is a string
use mathlib.Core.Path.{sym, subst, ◌∙◌}
use Rattle.parts.specs.Requests.{TypesTo}
use native.Mathlib.Omega.{arith}
use Rattle.parts.proofs.Laws.Holding.{string_stands, text_ends}
use Rattle.parts.proofs.Laws.Spoken.{type_no, type_said}
use Rattle.parts.proofs.Laws.Kinds.{text_told}
use Rattle.parts.proofs.words.type_at.Goals as goal

pub returns-then-ne : goal.returns-then-ne
returns-then-ne c =
    λ t e p. type_no t (text_told c.kind_at.ensures c.ne.ensures c.if-ne.true t e p)

pub quoted-from-requires : goal.quoted-from-requires
quoted-from-requires c = string_stands _ c.requires.is ((text_told c.kind_at.ensures c.ne.ensures c.if-ne.false _ _ c.requires.is))

pub slice_bounds-type_named-count : goal.slice_bounds-type_named-count
slice_bounds-type_named-count c = omega (arith, ((c.quoted-from.ensures _ _ (string_stands _ c.requires.is ((text_told c.kind_at.ensures c.ne.ensures c.if-ne.false _ _ c.requires.is))).is)).order)

pub slice_bounds-type_named-start : goal.slice_bounds-type_named-start
slice_bounds-type_named-start c = omega (arith, ((c.quoted-from.ensures _ _ (string_stands _ c.requires.is ((text_told c.kind_at.ensures c.ne.ensures c.if-ne.false _ _ c.requires.is))).is)).order)

pub slice_bounds-type_named-end : goal.slice_bounds-type_named-end
slice_bounds-type_named-end c = omega (arith, ((c.quoted-from.ensures _ _ (string_stands _ c.requires.is ((text_told c.kind_at.ensures c.ne.ensures c.if-ne.false _ _ c.requires.is))).is)).inside)

pub returns-in_err-kind : goal.returns-in_err-kind
returns-in_err-kind c =
    λ t e p. subst (TypesTo t e) (sym c.from_residual.ensures)
    (type_said c.quoted-from.result p (text_told c.kind_at.ensures c.ne.ensures c.if-ne.false t e p) c.quoted-from.ensures
    ∙ sym c.type_named.ensures ∙ c.in_err-kind.was)

pub overflow_add-result : goal.overflow_add-result
overflow_add-result c = omega (arith, ((c.quoted-from.ensures _ _ (string_stands _ c.requires.is ((text_told c.kind_at.ensures c.ne.ensures c.if-ne.false _ _ c.requires.is))).is)).inside)

pub returns : goal.returns
returns c =
    λ t e p.
    let are = text_told c.kind_at.ensures c.ne.ensures c.if-ne.false t e p in
    record {
      is = sym c.in_ok-kind.was ∙ c.type_named.ensures ∙ sym (type_said c.quoted-from.result p are c.quoted-from.ensures);
      ends = text_ends c.quoted-from.result p are c.quoted-from.ensures;
    }
