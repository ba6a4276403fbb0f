-- A mark, a length, and the text.
use mathlib.Core.Path.{refl}
use native.Mathlib.Omega.{arith}
use lib.ListN.{length}
use Rattle.candidates.proofs.Laws.Rows.{filled_next, text_put}
use Rattle.candidates.proofs.rows.put_text.Goals as goal

pub returns : goal.returns
returns c =
    text_put c.args.mark c.args.cs.now
    (filled_next 1 (length c.args.cs.now) (record { is = c.put_mark.ensures }) refl (omega arith)).is
    c.requires.1 c.copy_from_slice.ensures.after
