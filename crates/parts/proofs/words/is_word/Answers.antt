-- A string is compared between its quotes; no other value is a word.
use mathlib.Core.Path.{sym, ◌∙◌}
use native.Mathlib.Omega.{arith}
use Rattle.parts.proofs.Laws.Holding.{string_stands}
use Rattle.parts.proofs.Laws.Spoken.{word_no, word_said}
use Rattle.parts.proofs.Laws.Kinds.{text_told}
use Rattle.parts.proofs.words.is_word.Goals as goal

pub returns-then-ne : goal.returns-then-ne
returns-then-ne c =
    λ t e p. sym (word_no _ t (text_told c.kind_at.ensures c.ne.ensures c.if-ne.true t e p))

pub quoted-from-requires : goal.quoted-from-requires
quoted-from-requires c = (string_stands _ c.requires.is
    ((text_told c.kind_at.ensures c.ne.ensures c.if-ne.false) _ _
    c.requires.is))

pub slice_bounds-same-count : goal.slice_bounds-same-count
slice_bounds-same-count c = let raw = c.quoted-from.ensures _ _
    (string_stands _ c.requires.is
    ((text_told c.kind_at.ensures c.ne.ensures c.if-ne.false) _ _
    c.requires.is)).is in omega (arith, raw.order)

pub slice_bounds-same-start : goal.slice_bounds-same-start
slice_bounds-same-start c = let raw = c.quoted-from.ensures _ _
    (string_stands _ c.requires.is
    ((text_told c.kind_at.ensures c.ne.ensures c.if-ne.false) _ _
    c.requires.is)).is in omega (arith, raw.order)

pub slice_bounds-same-end : goal.slice_bounds-same-end
slice_bounds-same-end c = let raw = c.quoted-from.ensures _ _
    (string_stands _ c.requires.is
    ((text_told c.kind_at.ensures c.ne.ensures c.if-ne.false) _ _
    c.requires.is)).is in omega (arith, raw.inside)

pub returns : goal.returns
returns c = λ t e p. c.same.ensures ∙ sym (word_said _ c.quoted-from.result p
    ((text_told c.kind_at.ensures c.ne.ensures c.if-ne.false) t e p)
    c.quoted-from.ensures)
