-- One law for each kind of first byte; what is owed behind it is what the call reads.
use mathlib.Core.Path.{refl}
use mathlib.Core.List.{[], ◌∷◌}
use mathlib.Core.Logic.{inl, inr}
use native.Mathlib.Omega.{arith}
use borrow.Author.Rules.{rules}
use Rattle.text.specs.Machine.{integer, value, optional}
use Rattle.text.specs.declared.scan.Shape.TheVariants.{List as list, Object as object}
use Rattle.text.proofs.Laws.Reading.{goes_seq, takes, refuses, stops, alike}
use Rattle.text.proofs.Laws.Moves.Values.{value_text, value_minus, value_digit, value_false, value_null}
use Rattle.text.proofs.Laws.Moves.Values.{value_true, value_none}
use Rattle.text.proofs.Laws.Moves.Owing.{same_move}
use Rattle.text.proofs.Laws.Values.{begins_deep, begins_opened, begins_ends}
use Rattle.text.proofs.scan.begin.Goals as goal

pub returns-then-s-at : goal.returns-then-s-at
unfolding optional
returns-then-s-at c = stops (value _) [] (omega arith) refl

pub returns-then-left-eq0 : goal.returns-then-left-eq0
returns-then-left-eq0 c = begins_deep list c.if-s-at.false c.in-91.is c.if-left-eq0.true

pub returns-then-left-eq0-2 : goal.returns-then-left-eq0-2
returns-then-left-eq0-2 c = begins_deep object c.if-s-at.false c.in-123.is c.if-left-eq0-2.true

pub returns-in-34 : goal.returns-in-34
returns-in-34 c =
    let e = value_text _ _ c.in-34.is in
    begins_ends _ _ _ c.string.result _ (search rules) (goes_seq c.string.result (takes (value _) [] _ (omega arith) e) c.string.ensures)

pub returns-in-45 : goal.returns-in-45
returns-in-45 c =
    let e = value_minus _ _ c.in-45.is in
    begins_ends _ _ _ c.unsigned.result _ (search rules) (goes_seq c.unsigned.result (takes (value _) [] _ (omega arith) e) c.unsigned.ensures)

pub returns-else-left-eq0 : goal.returns-else-left-eq0
returns-else-left-eq0 c =
    begins_opened list c.if-s-at.false c.in-91.is _ c.if-left-eq0.false c.opened.ensures

pub returns-in-102 : goal.returns-in-102
returns-in-102 c =
    let e = value_false _ _ c.in-102.is in
    begins_ends _ _ _ c.word.result _ (search rules) (goes_seq c.word.result (takes (value _) [] _ (omega arith) e) c.word.ensures)

pub returns-in-110 : goal.returns-in-110
returns-in-110 c =
    let e = value_null _ _ c.in-110.is in
    begins_ends _ _ _ c.word-in-110.result _ (search rules) (goes_seq c.word-in-110.result (takes (value _) [] _ (omega arith) e) c.word-in-110.ensures)

pub returns-in-116 : goal.returns-in-116
returns-in-116 c =
    let e = value_true _ _ c.in-116.is in
    begins_ends _ _ _ c.word-in-116.result _ (search rules) (goes_seq c.word-in-116.result (takes (value _) [] _ (omega arith) e) c.word-in-116.ensures)

pub returns-else-left-eq0-2 : goal.returns-else-left-eq0-2
returns-else-left-eq0-2 c =
    begins_opened object c.if-s-at.false c.in-123.is _ c.if-left-eq0-2.false c.opened-in-123.ensures

pub returns-in-48-to-57 : goal.returns-in-48-to-57
returns-in-48-to-57 c =
    let e = same_move _ (value _) integer (value_digit _ _ (omega arith) (omega arith)) in
    begins_ends _ _ _ c.unsigned-in-48-to-57.result _ (search rules)
    (goes_seq c.unsigned-in-48-to-57.result (alike (value _ ∷ []) (integer ∷ []) c.if-s-at.false e) c.unsigned-in-48-to-57.ensures)

pub returns-in_default : goal.returns-in_default
returns-in_default c =
    refuses (value _) [] c.if-s-at.false
    (value_none _ _ c.in_default.in_default-own.rest.0.0.0.0.0.0.1 c.in_default.in_default-own.rest.0.0.0.0.0.1 (inl c.in_default.if-b-lt48-own.true) c.in_default.in_default-own.rest.0.0.0.0.1
    c.in_default.in_default-own.rest.0.0.0.1 c.in_default.in_default-own.rest.0.0.1 c.in_default.in_default-own.rest.0.1 c.in_default.in_default-own.rest.1)

pub returns-in_default-2 : goal.returns-in_default-2
returns-in_default-2 c =
    refuses (value _) [] c.if-s-at.false
    (value_none _ _ c.in_default.in_default-own.rest.0.0.0.0.0.0.1 c.in_default.in_default-own.rest.0.0.0.0.0.1 (inr c.in_default.if-b-lt58-own.false) c.in_default.in_default-own.rest.0.0.0.0.1
    c.in_default.in_default-own.rest.0.0.0.1 c.in_default.in_default-own.rest.0.0.1 c.in_default.in_default-own.rest.0.1 c.in_default.in_default-own.rest.1)
