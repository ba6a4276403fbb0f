-- Equality of slices is that of their lists.
use Rattle.std.proofs.Common.{◌∙◌}
use Rattle.syntax.proofs.Laws.Same.{same_pointwise}
use Rattle.syntax.proofs.forms.same_text.Goals as goal

pub returns : goal.returns
returns c = c.eq.ensures ∙ same_pointwise c.args.a.now c.args.b.now
