-- A zero stands alone before the fraction, any other digit may have more behind it.
use mathlib.Core.Path.{refl}
use mathlib.Core.List.{[], ◌∷◌}
use native.Mathlib.Omega.{arith}
use Rattle.text.specs.Machine.{digits, integer, fraction, optional}
use Rattle.text.proofs.Laws.Reading.{seq, frame, goes_seq, takes, refuses, stops}
use Rattle.text.proofs.Laws.Moves.Numbers.{integer_zero, integer_more, integer_under, integer_over}
use Rattle.text.proofs.numbers.unsigned.Goals as goal

pub returns-then-s-at : goal.returns-then-s-at
unfolding optional
returns-then-s-at c = stops integer [] (omega arith) refl

pub past_fraction-requires-in-49-to-57 : goal.past_fraction-requires-in-49-to-57
past_fraction-requires-in-49-to-57 c = c.some_digits-i.ensures.high

pub returns-in-48 : goal.returns-in-48
returns-in-48 c =
    goes_seq c.past_fraction.result
    (takes integer [] (fraction ∷ []) c.if-s-at.false (integer_zero _ c.in-48.is))
    c.past_fraction.ensures

pub returns-in-49-to-57 : goal.returns-in-49-to-57
returns-in-49-to-57 c =
    goes_seq c.past_fraction-in-49-to-57.result
    (seq
    (takes integer [] (digits ∷ fraction ∷ []) c.if-s-at.false
    (integer_more _ c.in-49-to-57.in_default-own.rest.1 c.in-49-to-57.if-b-lt48-own.false c.in-49-to-57.if-b-lt58-own.true))
    (frame (fraction ∷ []) c.some_digits-i.ensures)) c.past_fraction-in-49-to-57.ensures

pub returns-in_default : goal.returns-in_default
returns-in_default c = refuses integer [] c.if-s-at.false (integer_under _ c.in_default.if-b-lt48-own.true)

pub returns-in_default-2 : goal.returns-in_default-2
returns-in_default-2 c = refuses integer [] c.if-s-at.false (integer_over _ c.in_default.if-b-lt58-own.false)
