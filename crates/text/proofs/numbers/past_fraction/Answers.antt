-- A dot owes a digit or more and then an exponent or none; without it there may be an exponent alone.
use mathlib.Core.Path.{refl}
use mathlib.Core.List.{[], ◌∷◌}
use native.Mathlib.Omega.{arith}
use borrow.Author.Rules.{rules}
use Rattle.text.specs.Machine.{digit, digits, fraction, exponent, optional}
use Rattle.text.proofs.Laws.Reading.{seq, frame, fall, fall_frame, goes_seq, takes, alike, skips}
use Rattle.text.proofs.Laws.Moves.Numbers.{fraction_is, fraction_not}
use Rattle.text.proofs.Laws.Moves.Owing.{same_move}
use Rattle.text.proofs.numbers.past_fraction.Goals as goal

pub returns-then-s-at : goal.returns-then-s-at
unfolding optional
returns-then-s-at c = skips fraction [] (omega arith) refl

pub returns-then-b-ne46 : goal.returns-then-b-ne46
returns-then-b-ne46 c =
    goes_seq c.past_exponent.result
    (alike (fraction ∷ []) (exponent ∷ []) c.if-s-at.false
    (same_move _ fraction exponent (fraction_not _ c.if-b-ne46.true))) c.past_exponent.ensures

pub returns-in_err-n : goal.returns-in_err-n
returns-in_err-n c =
    let dot = takes fraction [] (digit ∷ digits ∷ exponent ∷ []) c.if-s-at.false (fraction_is _ c.if-b-ne46.false) in
    let stops = fall dot (fall_frame (exponent ∷ []) c.in_err-n.ensures) in
    search rules

pub returns : goal.returns
returns c =
    let dot = takes fraction [] (digit ∷ digits ∷ exponent ∷ []) c.if-s-at.false (fraction_is _ c.if-b-ne46.false) in
    goes_seq c.past_exponent-2.result (seq dot (frame (exponent ∷ []) c.in_ok-n.ensures)) c.past_exponent-2.ensures
