-- Test by test.
use mathlib.Core.Path.{◌∙◌}
use borrow.Author.Tests.{eq-eqb}
use Rattle.writing.proofs.Laws.Chars.{dollar_escaped, plain_bare, star_escaped, any_escaped}
use Rattle.writing.proofs.spelling.is_escaped.Goals as goal

pub returns-then-y-eq-DOLLAR : goal.returns-then-y-eq-DOLLAR
returns-then-y-eq-DOLLAR c =
    eq-eqb _ _ c.if-y-eq-DOLLAR.true ∙ dollar_escaped c.args.wild c.args.y c.if-y-eq-DOLLAR.true

pub returns-else-wild : goal.returns-else-wild
returns-else-wild c = c.if-wild.false ∙ plain_bare _ _ c.if-y-eq-DOLLAR.false c.if-wild.false

pub returns-then-y-eq-STAR : goal.returns-then-y-eq-STAR
returns-then-y-eq-STAR c =
    eq-eqb _ _ c.if-y-eq-STAR.true ∙ star_escaped _ _ c.if-y-eq-DOLLAR.false c.if-wild.true c.if-y-eq-STAR.true

pub returns-else-y-eq-STAR : goal.returns-else-y-eq-STAR
returns-else-y-eq-STAR c = any_escaped _ _ c.if-y-eq-DOLLAR.false c.if-wild.true c.if-y-eq-STAR.false
