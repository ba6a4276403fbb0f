-- Nothing stands in it.
use mathlib.Core.Path.{refl}
use Rattle.writing.proofs.Laws.Showing.{shows_new}
use Rattle.writing.proofs.sink.Sink.new.Goals as goal

pub returns : goal.returns
returns c = (refl, refl, shows_new refl refl)
