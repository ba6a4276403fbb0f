-- One number behind none.
use mathlib.Core.Path.{refl}
use native.Mathlib.Omega.{arith}
use Rattle.candidates.proofs.Laws.Rows.{filled_none, filled_next}
use Rattle.candidates.proofs.rows.put_mark.Goals as goal

pub returns : goal.returns
returns c =
    (filled_next 0 c.args.mark (filled_none c.requires c.clear.ensures) refl (omega arith)).is
