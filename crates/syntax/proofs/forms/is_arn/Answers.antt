-- The beginning, and the colons.
use Rattle.std.proofs.Common.{◌∙◌, sym, ap}
use lib.Dec.{leb}
use Rattle.syntax.proofs.Laws.Resources.{arn_colons, arn_other}
use Rattle.syntax.proofs.forms.is_arn.Goals as goal

pub returns-then-starts_with : goal.returns-then-starts_with
returns-then-starts_with c =
    ap (leb 5) c.colons.ensures ∙ arn_colons c.args.cs.now (sym c.starts_with.ensures.value ∙ c.if-starts_with.true)

pub returns-else-starts_with : goal.returns-else-starts_with
returns-else-starts_with c =
    c.if-starts_with.false ∙ arn_other c.args.cs.now (sym c.starts_with.ensures.value ∙ c.if-starts_with.false)
