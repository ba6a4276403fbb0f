-- The digits are those of the number that lies there.
use mathlib.Core.Path.{ap}
use Rattle.writing.specs.WrittenForm.{digits_up_to}
use Rattle.writing.proofs.Laws.Showing.{adds_as}
use Rattle.writing.proofs.entries.put_number.Goals as goal

pub number_at-requires : goal.number_at-requires
number_at-requires c = c.requires

pub returns : goal.returns
returns c =
    λ n l. adds_as (ap (digits_up_to 15) (c.number_at.ensures n l)) c.put_digits.ensures
