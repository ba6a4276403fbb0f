-- The number is the list's length, and its rows lie behind it.
use Rattle.held.proofs.Laws.Runs.{lies_first, lies_next, rows_pass}
use Rattle.held.proofs.runs.rows.Goals as goal

pub returns : goal.returns
returns c = λ xs l. rows_pass xs _ (lies_first l) (c.rows_from-l.ensures xs (lies_first l) (lies_next l))
