-- The label's length stands behind the first number.
use Rattle.held.proofs.Laws.Places.{labelled}
use Rattle.held.proofs.places.behind_label.Goals as goal

pub bounds-run-at : goal.bounds-run-at
bounds-run-at c = (labelled c.requires.thing c.requires.lies).inside
