-- A character is put whole or not at all.
use mathlib.Core.Path.{refl}
use Rattle.writing.proofs.Laws.Showing.{put_short, put_whole}
use Rattle.writing.proofs.sink.Sink.put_char.Goals as goal

pub returns-in-Some : goal.returns-in-Some
returns-in-Some c = put_whole c.put_char.ensures c.in-Some.is refl refl refl refl

pub returns-in-None : goal.returns-in-None
returns-in-None c = put_short c.put_char.ensures c.in-None.is refl refl c.end.ensures
