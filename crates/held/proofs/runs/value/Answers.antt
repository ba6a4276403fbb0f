-- A number's first half is marked, and a text's length is not, since a text lies within the run.
use Rattle.held.proofs.Laws.Runs.{number_passes}
use Rattle.held.proofs.runs.value.Goals as goal

pub returns-then-n-ge-MARK : goal.returns-then-n-ge-MARK
returns-then-n-ge-MARK c = λ x l. number_passes x l c.if-n-ge-MARK.true
