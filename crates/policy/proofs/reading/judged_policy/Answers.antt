-- What the text is, is told from the place on: broken, too deep, or whole. A whole text with an unfit member there is no
-- policy; any other is held.
use mathlib.Core.Path.{sym, ◌∙◌}
use borrow.Author.Rules.{rules}
use Rattle.policy.specs.Reading.{policy_rules}
use Rattle.policy.proofs.Laws.Reading.{says_broken, says_deep}
use Rattle.policy.proofs.Laws.Onward.{judged_wrong}
use Rattle.policy.proofs.reading.judged_policy.Goals as goal

pub returns-then-blamed : goal.returns-then-blamed
returns-then-blamed c =
    judged_wrong c.requires.0 c.requires.1.1 (c.requires.1.1.judged ∙ sym c.in-Ok.ensures)
    (c.blamed.ensures.1 c.if-blamed.true)

pub returns-in-Err-Breaks : goal.returns-in-Err-Breaks
returns-in-Err-Breaks c =
    let broken =
    says_broken policy_rules _ c.in-Err-Breaks.p c.requires.0 (c.in-Err-Breaks.ensures ∙ sym c.requires.1.1.judged)
    c.in-Err-Breaks.field-0-is in
    search rules

pub returns-in-Err-Deep : goal.returns-in-Err-Deep
returns-in-Err-Deep c =
    says_deep policy_rules _ c.requires.0 (c.in-Err-Deep.ensures ∙ sym c.requires.1.1.judged) c.in-Err-Deep.field-0-is
