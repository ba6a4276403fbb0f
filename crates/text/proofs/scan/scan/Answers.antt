-- The whole text is white space, a value and white space again, and nothing more.
use mathlib.Core.Path.{◌∙◌}
use borrow.Author.Rules.{rules}
use Rattle.text.proofs.Laws.Values.{verdict_fails, verdict_on}
use Rattle.text.proofs.scan.scan.Goals as goal

pub returns-in_err-n : goal.returns-in_err-n
returns-in_err-n c = let stops = verdict_fails c.space.ensures c.in_err-n.ensures in search rules

pub returns : goal.returns
returns c = c.ended.ensures ∙ verdict_on c.space.ensures c.in_ok-n.ensures
