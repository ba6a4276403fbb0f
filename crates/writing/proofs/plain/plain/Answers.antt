-- What the seven tests let pass is written as itself and escaped nowhere.
use Rattle.writing.proofs.Laws.Plain.{tests_plain}
use Rattle.writing.proofs.plain.plain.Goals as goal

pub returns : goal.returns
returns c = λ e. tests_plain _ e
