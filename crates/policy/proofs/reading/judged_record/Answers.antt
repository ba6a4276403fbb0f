-- Broken, too deep, or a whole text.
use Rattle.policy.specs.Reading.{record_rules}
use Rattle.policy.proofs.Laws.Reading.{says_broken, says_deep}
use Rattle.policy.proofs.reading.judged_record.Goals as goal

pub returns-in-Err-Breaks : goal.returns-in-Err-Breaks
returns-in-Err-Breaks c =
    says_broken record_rules _ _ c.requires.0 c.in-Err-Breaks.ensures c.in-Err-Breaks.field-0-is

pub returns-in-Err-Deep : goal.returns-in-Err-Deep
returns-in-Err-Deep c = says_deep record_rules _ c.requires.0 c.in-Err-Deep.ensures c.in-Err-Deep.field-0-is
