-- Behind the white space stands the closing byte or a first inner value.
use mathlib.Core.Path.{sym, ◌∙◌}
use borrow.Author.Rules.{rules}
use Rattle.text.proofs.Laws.Values.{opened_short, opened_empty, opened_inner, opened_fails}
use Rattle.text.proofs.scan.opened.Goals as goal

pub returns-then-s-i : goal.returns-then-s-i
returns-then-s-i c = opened_short c.space-i.ensures c.if-s-i.true

pub returns-then-s-i-2 : goal.returns-then-s-i-2
returns-then-s-i-2 c =
    opened_empty c.space-i.ensures c.if-s-i.false (c.if-s-i-2.true ∙ c.closer.ensures)

pub returns-in_err-first : goal.returns-in_err-first
returns-in_err-first c =
    let stops =
    opened_fails c.space-i.ensures c.if-s-i.false (λ e. c.if-s-i-2.false (e ∙ sym c.closer.ensures))
    c.in_err-first.ensures in
    search rules

pub returns : goal.returns
returns c =
    opened_inner c.space-i.ensures c.if-s-i.false (λ e. c.if-s-i-2.false (e ∙ sym c.closer.ensures)) c.in_ok-first.ensures
