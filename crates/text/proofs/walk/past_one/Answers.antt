-- A quote opens a string that the walk is told to pass whole; any other byte is passed alone.
use mathlib.Core.Path.{sym}
use borrow.Author.Rules.{rules}
use Rattle.text.proofs.walk.past_one.Goals as goal

pub bounds-s-i : goal.bounds-s-i
bounds-s-i c = c.requires.inside

pub overflow_add-result : goal.overflow_add-result
overflow_add-result c = search rules

pub returns-then-s-i-ne34 : goal.returns-then-s-i-ne34
returns-then-s-i-ne34 c = λ j p. sym (p.other c.if-s-i-ne34.true)

pub overflow_add-i : goal.overflow_add-i
overflow_add-i c = search rules

pub past_quote-requires : goal.past_quote-requires
past_quote-requires c =
    record { stop = c.requires.next; is = c.requires.steps.quote c.if-s-i-ne34.false }

pub returns : goal.returns
returns c = λ j p. c.past_quote.ensures j (p.quote c.if-s-i-ne34.false)
