-- What neither test finds is no mark.
use Rattle.text.proofs.Laws.Seeking.{not_mark}
use Rattle.text.proofs.ends.mark.Goals as goal

pub returns : goal.returns
returns c h = not_mark _ h
