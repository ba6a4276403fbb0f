-- Bytes that do not fit are too much; those that do are stored together.
use mathlib.Core.Path.{refl}
use native.Mathlib.Omega.{arith}
use Rattle.writing.proofs.Laws.Showing.{stored_in}
use Rattle.writing.proofs.sink.Sink.put_bytes.Goals as goal

pub returns : goal.returns
returns c = stored_in (omega arith) (omega arith) c.copy_from_slice.ensures.after refl refl refl refl
