-- A number's first half is marked, and a text's length is not.
use mathlib.Core.Path.{◌∙◌}
use borrow.Author.Tests.{ne_eqb}
use Rattle.syntax.specs.Forms.{same}
use Rattle.held.proofs.Laws.Parts.{number_lying}
use Rattle.decision.specs.Matching.{matches}
use Rattle.decision.proofs.Laws.DecidingMeets.{meets_other, meets_apart, meets_number, both_same}
use Rattle.decision.proofs.Laws.DecidingMeets.{meets_unlike, meets_same, meets_like}
use Rattle.decision.proofs.deciding.meets_at.Goals as goal

pub not_above_at-requires : goal.not_above_at-requires
not_above_at-requires c =
    (number_lying c.requires.0 c.in-true-true.is-0, number_lying c.requires.1 c.in-true-true.is-1)

pub returns-then-operator-eq-NUMERIC_LESS_THAN_EQUALS : goal.returns-then-operator-eq-NUMERIC_LESS_THAN_EQUALS
returns-then-operator-eq-NUMERIC_LESS_THAN_EQUALS c =
    λ o x y e l m.
    meets_number o x y e l m c.in-true-true.is-1 c.in-true-true.is-0
    c.if-operator-eq-NUMERIC_LESS_THAN_EQUALS.true _ c.not_above_at.ensures

pub returns-else-operator-eq-NUMERIC_LESS_THAN_EQUALS : goal.returns-else-operator-eq-NUMERIC_LESS_THAN_EQUALS
returns-else-operator-eq-NUMERIC_LESS_THAN_EQUALS c =
    λ o x y e l m.
    ne_eqb _ _ c.if-operator-eq-NUMERIC_LESS_THAN_EQUALS.false
    ∙ meets_other o x y e l m c.in-true-true.is-1 c.if-operator-eq-NUMERIC_LESS_THAN_EQUALS.false

pub returns-in-1 : goal.returns-in-1
returns-in-1 c =
    λ o x y e l m.
    meets_same o x y e l m c.in-false-false.is-1 c.in-false-false.is-0 c.in-1.is _
    (λ xs cs i j. both_same same (c.text_at.ensures xs i) (c.text_at-in-1.ensures cs j) c.same_text.ensures)

pub returns-in-2 : goal.returns-in-2
returns-in-2 c =
    λ o x y e l m.
    meets_like o x y e l m c.in-false-false.is-1 c.in-false-false.is-0 c.in-2.is _
    (λ xs cs i j. both_same matches (c.text_at-in-2.ensures xs i) (c.text_at-in-2-2.ensures cs j) c.matches.ensures)

pub returns-in_default : goal.returns-in_default
returns-in_default c = λ o x y e l m. meets_unlike o x y e l m c.in_default.is-1 c.in_default.is-0

pub returns-in_default-2 : goal.returns-in_default-2
returns-in_default-2 c = λ o x y e l m. meets_apart o x y e l m c.in_default.is-1 c.in_default.is-0
