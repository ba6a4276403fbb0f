-- A byte inside is stored; one behind the end is too much.
use mathlib.Core.Path.{refl}
use Rattle.writing.proofs.Laws.Showing.{byte_in}
use Rattle.writing.proofs.sink.Sink.put.Goals as goal

pub returns : goal.returns
returns c = byte_in _ c.if-self.false refl refl refl refl
