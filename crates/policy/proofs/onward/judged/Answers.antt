-- By the place.
use Rattle.policy.proofs.Laws.Onward.{whole_owed}
use Rattle.policy.proofs.onward.judged.Goals as goal

pub returns-in-Text : goal.returns-in-Text
returns-in-Text c = whole_owed c.args.s.now c.in-Text.is c.scan.ensures
