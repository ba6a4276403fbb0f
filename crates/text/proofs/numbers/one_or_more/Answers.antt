-- The first digit is due, those behind it are not.
use mathlib.Core.Path.{refl}
use mathlib.Core.List.{[], ◌∷◌}
use native.Mathlib.Omega.{arith}
use Rattle.text.specs.Machine.{digit, digits, optional}
use Rattle.text.proofs.Laws.Reading.{seq, takes, refuses, stops}
use Rattle.text.proofs.Laws.Moves.Numbers.{digit_is, digit_under, digit_over}
use Rattle.text.proofs.numbers.one_or_more.Goals as goal

pub returns-then-s-at : goal.returns-then-s-at
unfolding optional
returns-then-s-at c = stops digit (digits ∷ []) (omega arith) refl

pub returns-in-48-to-57 : goal.returns-in-48-to-57
returns-in-48-to-57 c =
    seq (takes digit (digits ∷ []) [] c.if-s-at.false (digit_is _ c.in-48-to-57.if-b-lt48-own.false c.in-48-to-57.if-b-lt58-own.true))
    c.some_digits.ensures

pub returns-in_default : goal.returns-in_default
returns-in_default c = refuses digit (digits ∷ []) c.if-s-at.false (digit_under _ c.in_default.if-b-lt48-own.true)

pub returns-in_default-2 : goal.returns-in_default-2
returns-in_default-2 c = refuses digit (digits ∷ []) c.if-s-at.false (digit_over _ c.in_default.if-b-lt58-own.false)
