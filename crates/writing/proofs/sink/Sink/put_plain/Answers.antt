-- Behind the end of the room nothing is put; else as many as were put one behind another.
use mathlib.Core.Path.{refl}
use Rattle.writing.proofs.Laws.Plain.{plain_none, plain_added}
use Rattle.writing.proofs.sink.Sink.put_plain.Goals as goal

pub returns-then-self : goal.returns-then-self
returns-then-self c = plain_none _ _

pub returns : goal.returns
returns c = plain_added c.if-self.false refl c.put_plain-n.ensures refl refl refl refl
