-- Three numbers one behind the other.
use mathlib.Core.Path.{refl}
use Prim.Native.Nat.{◌/◌, ◌%◌}
use native.Mathlib.Omega.{arith}
use Rattle.candidates.proofs.Laws.Rows.{filled_next}
use Rattle.candidates.proofs.rows.put_number.Goals as goal

pub returns : goal.returns
returns c =
    (filled_next 2 (c.args.n % 4294967296)
    (filled_next 1 (c.args.n / 4294967296) (record { is = c.put_mark.ensures }) refl (omega arith)) refl
    (omega arith)).is
