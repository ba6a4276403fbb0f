-- The star stands behind the text.
use Rattle.candidates.proofs.Laws.Forming.{starts_set}
use Rattle.candidates.proofs.legality.put_starred.Goals as goal

pub returns : goal.returns
returns c = rw c.star_of.ensures (starts_set _ _ _ c.copy_from_slice.ensures.after c.requires)
