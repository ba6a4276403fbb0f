-- The length is looked at first, then the star alone, then the beginning and the colons.
use mathlib.Core.Path.{sym, ◌∙◌}
use borrow.Author.Tests.{lt-leb}
use Rattle.parts.proofs.Laws.Requests.Tests.{arn_long, arn_star, arn_rest}
use Rattle.straight.proofs.forms.is_resource_arn.Goals as goal

pub returns-then-is_only : goal.returns-then-is_only
returns-then-is_only c =
    c.if-is_only.true ∙ arn_star _ c.if-cs-le-ENTRY.true (sym c.is_only.ensures ∙ c.if-is_only.true)

pub returns-else-is_only : goal.returns-else-is_only
returns-else-is_only c =
    c.is_arn.ensures ∙ arn_rest _ c.if-cs-le-ENTRY.true (sym c.is_only.ensures ∙ c.if-is_only.false)

pub returns-else-cs-le-ENTRY : goal.returns-else-cs-le-ENTRY
returns-else-cs-le-ENTRY c = lt-leb _ 254 c.if-cs-le-ENTRY.false ∙ arn_long _ c.if-cs-le-ENTRY.false
