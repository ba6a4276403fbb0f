-- The item takes a sign, and is done before any other byte and at the end.
use mathlib.Core.Path.{refl}
use mathlib.Core.List.{[]}
use native.Mathlib.Omega.{arith}
use Rattle.text.specs.Machine.{sign, optional}
use Rattle.text.proofs.Laws.Reading.{takes, passes, skips}
use Rattle.text.proofs.Laws.Moves.Numbers.{sign_is, sign_not}
use Rattle.text.proofs.numbers.past_sign.Goals as goal

pub returns-then-s-at : goal.returns-then-s-at
unfolding optional
returns-then-s-at c = skips sign [] (omega arith) refl

pub returns-in-43 : goal.returns-in-43
returns-in-43 c = takes sign [] [] c.if-s-at.false (sign_is _ c.in-43.is)

pub returns-in_default : goal.returns-in_default
returns-in_default c = passes sign [] c.if-s-at.false (sign_not _ c.in_default.in_default-own.rest.1)
