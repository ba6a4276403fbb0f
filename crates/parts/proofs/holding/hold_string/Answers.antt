-- A string's part between the quotes is held, and the string ends behind its last quote; no other value is a text.
use mathlib.Core.Path.{refl, sym}
use native.Mathlib.Omega.{arith}
use Rattle.held.specs.Held.{held_text}
use Rattle.syntax.specs.Members.{characters_of}
use Rattle.parts.proofs.Laws.Holding.{not_text, string_stands, text_said, text_ends, text_room}
use Rattle.parts.proofs.Laws.Holding.{laid_string, left_string}
use Rattle.parts.proofs.Laws.Formed.{none_ends}
use Rattle.parts.proofs.Laws.Kinds.{text_told}
use Rattle.parts.proofs.holding.hold_string.Goals as goal

pub returns-then-ne : goal.returns-then-ne
returns-then-ne c =
    λ t e p. record {
      size = refl;
      said = not_text t (text_told c.kind_at.ensures c.ne.ensures c.if-ne.true t e p);
    }

pub quoted-from-requires : goal.quoted-from-requires
quoted-from-requires c =
    let are = text_told c.kind_at.ensures c.ne.ensures c.if-ne.false in
    string_stands _ c.requires.is (are _ _ c.requires.is)

pub slice_bounds-hold_raw-count : goal.slice_bounds-hold_raw-count
slice_bounds-hold_raw-count c =
    let are = text_told c.kind_at.ensures c.ne.ensures c.if-ne.false in
    let raw = c.quoted-from.ensures _ _ (string_stands _ c.requires.is (are _ _ c.requires.is)).is in
    omega (arith, raw.order)

pub slice_bounds-hold_raw-start : goal.slice_bounds-hold_raw-start
slice_bounds-hold_raw-start c =
    let are = text_told c.kind_at.ensures c.ne.ensures c.if-ne.false in
    let raw = c.quoted-from.ensures _ _ (string_stands _ c.requires.is (are _ _ c.requires.is)).is in
    omega (arith, raw.order)

pub slice_bounds-hold_raw-end : goal.slice_bounds-hold_raw-end
slice_bounds-hold_raw-end c =
    let are = text_told c.kind_at.ensures c.ne.ensures c.if-ne.false in
    let raw = c.quoted-from.ensures _ _ (string_stands _ c.requires.is (are _ _ c.requires.is)).is in
    omega (arith, raw.inside)

pub hold_raw-requires : goal.hold_raw-requires
hold_raw-requires c =
    let are = text_told c.kind_at.ensures c.ne.ensures c.if-ne.false in
    text_room c.requires.is (are _ _ c.requires.is) c.quoted-from.result c.quoted-from.ensures c.requires.roomy

pub returns-in_err-past : goal.returns-in_err-past
returns-in_err-past c =
    let are = text_told c.kind_at.ensures c.ne.ensures c.if-ne.false in
    λ t e p. none_ends held_text c.args.run.now _ c.args.at (characters_of t) _ c.from_residual.ensures
    (left_string held_text c.args.at c.hold_raw.ensures c.in_err-past.was (sym (text_said c.quoted-from.result p (are t e p) c.quoted-from.ensures)))

pub overflow_add-result : goal.overflow_add-result
overflow_add-result c =
    let are = text_told c.kind_at.ensures c.ne.ensures c.if-ne.false in
    let raw = c.quoted-from.ensures _ _ (string_stands _ c.requires.is (are _ _ c.requires.is)).is in
    omega (arith, raw.inside)

pub returns : goal.returns
returns c =
    let are = text_told c.kind_at.ensures c.ne.ensures c.if-ne.false in
    λ t e p. (
      laid_string held_text c.hold_raw.ensures c.in_ok-past.was (sym (text_said c.quoted-from.result p (are t e p) c.quoted-from.ensures)),
      text_ends c.quoted-from.result p (are t e p) c.quoted-from.ensures,
    )
