-- What was passed is digits, and at the end the item is done: before another byte, or with the text.
use mathlib.Core.Path.{refl}
use mathlib.Core.List.{[], ◌∷◌}
use native.Mathlib.Omega.{arith}
use Rattle.text.specs.Machine.{digits, optional}
use Rattle.text.proofs.Laws.Reading.{stay, seq, takes, passes, skips}
use Rattle.text.proofs.Laws.Moves.Numbers.{digits_is, digits_under, digits_over}
use Rattle.text.proofs.numbers.some_digits.Goals as goal

pub loop-i-init : goal.loop-i-init
loop-i-init c = stay _ _ _ c.requires

pub loop-i-preserved : goal.loop-i-preserved
loop-i-preserved c =
    seq c.loop-i.invariant (takes digits [] (digits ∷ []) c.loop-i-test.true (digits_is _ c.in-48-to-57.if-b-lt48-own.false c.in-48-to-57.if-b-lt58-own.true))

pub returns-in_default : goal.returns-in_default
returns-in_default c =
    seq c.loop-i.invariant (passes digits [] c.loop-i-test.true (digits_under _ c.in_default.if-b-lt48-own.true))

pub returns-in_default-2 : goal.returns-in_default-2
returns-in_default-2 c =
    seq c.loop-i.invariant (passes digits [] c.loop-i-test.true (digits_over _ c.in_default.if-b-lt58-own.false))

pub returns : goal.returns
unfolding optional
returns c = seq c.loop-i.invariant (skips digits [] (omega arith) refl)
