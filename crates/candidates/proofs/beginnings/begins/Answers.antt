-- As the library finds a beginning.
use mathlib.Core.Path.{◌∙◌}
use Rattle.candidates.proofs.Laws.Comparing.{begins_by}
use Rattle.candidates.proofs.beginnings.begins.Goals as goal

pub returns : goal.returns
returns c = c.starts_with.ensures.value ∙ begins_by c.args.q.now c.args.t.now
