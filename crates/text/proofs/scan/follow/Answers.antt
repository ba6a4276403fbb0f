-- Behind the white space stands the closing byte, or a comma and what leads to another inner value.
use mathlib.Core.Path.{sym, ◌∙◌}
use borrow.Author.Rules.{rules}
use Rattle.text.proofs.Laws.Values.{follow_short, follow_close, follow_wrong, follow_inner, follow_fails}
use Rattle.text.proofs.scan.follow.Goals as goal

pub returns-then-s-i : goal.returns-then-s-i
returns-then-s-i c = follow_short c.space-i.ensures c.if-s-i.true

pub returns-then-b-closer : goal.returns-then-b-closer
returns-then-b-closer c =
    follow_close c.space-i.ensures c.if-s-i.false (c.if-b-closer.true ∙ c.closer.ensures)

pub returns-then-b-ne44 : goal.returns-then-b-ne44
returns-then-b-ne44 c =
    follow_wrong c.space-i.ensures c.if-s-i.false (λ e. c.if-b-closer.false (e ∙ sym c.closer.ensures))
    c.if-b-ne44.true

pub returns-in_err-inner : goal.returns-in_err-inner
returns-in_err-inner c =
    let stops = follow_fails c.space-i.ensures c.if-s-i.false c.if-b-ne44.false c.space-j.ensures c.in_err-inner.ensures in
    search rules

pub returns : goal.returns
returns c =
    follow_inner c.space-i.ensures c.if-s-i.false c.if-b-ne44.false c.space-j.ensures c.in_ok-inner.ensures
