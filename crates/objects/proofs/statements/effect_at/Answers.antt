-- The quoted word is the string that names it.
use Rattle.syntax.specs.Words.{allow_word, deny_word}
use Rattle.straight.specs.Marks.{all_bare}
use Rattle.objects.proofs.Laws.Words.{quoted_told, allow_named, deny_named}
use borrow.Author.Rules.{rules}
use Rattle.objects.proofs.statements.effect_at.Goals as goal

pub quote-requires : goal.quote-requires
unfolding all_bare
quote-requires c = search rules

pub returns-in-Some : goal.returns-in-Some
returns-in-Some c = quoted_told allow_word 1 (c.quote.ensures.found _ c.in-Some.is) allow_named

pub quote-requires-2 : goal.quote-requires-2
unfolding all_bare
quote-requires-2 c = search rules

pub returns : goal.returns
returns c = quoted_told deny_word 2 (c.quote-2.ensures.found _ c.in_ok-end.was) deny_named
