-- What no test finds stands for itself.
use Rattle.text.proofs.Laws.Plain.{not_special}
use Rattle.text.proofs.quoted.special.Goals as goal

pub returns : goal.returns
returns c h = not_special _ h
