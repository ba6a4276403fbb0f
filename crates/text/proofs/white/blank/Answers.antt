-- The four bytes of white space.
use Rattle.text.proofs.Laws.Plain.{blank_is, blank_not}
use Rattle.text.proofs.white.blank.Goals as goal

pub returns : goal.returns
returns c = record { is = blank_is _; is_not = blank_not _ }
