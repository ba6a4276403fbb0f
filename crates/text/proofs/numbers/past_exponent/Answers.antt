-- An e owes a sign or none and a digit or more; before any other byte there is no exponent.
use mathlib.Core.Path.{refl}
use mathlib.Core.List.{[], ◌∷◌}
use native.Mathlib.Omega.{arith}
use Rattle.text.specs.Machine.{sign, digit, digits, exponent, optional}
use Rattle.text.proofs.Laws.Reading.{seq, frame, goes_seq, takes, passes, skips}
use Rattle.text.proofs.Laws.Moves.Numbers.{exponent_is, exponent_not}
use Rattle.text.proofs.numbers.past_exponent.Goals as goal

pub returns-then-s-at : goal.returns-then-s-at
unfolding optional
returns-then-s-at c = skips exponent [] (omega arith) refl

pub one_or_more-requires : goal.one_or_more-requires
one_or_more-requires c = c.past_sign-i.ensures.high

pub returns-in-69 : goal.returns-in-69
returns-in-69 c =
    goes_seq c.one_or_more.result
    (seq
    (takes exponent [] (sign ∷ digit ∷ digits ∷ []) c.if-s-at.false
    (exponent_is _ c.in-69.is))
    (frame (digit ∷ digits ∷ []) c.past_sign-i.ensures)) c.one_or_more.ensures

pub returns-in_default : goal.returns-in_default
returns-in_default c = passes exponent [] c.if-s-at.false (exponent_not _ c.in_default.in_default-own.rest.1)
