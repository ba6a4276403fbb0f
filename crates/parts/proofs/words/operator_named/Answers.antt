-- The three words are tried in their turn.
use mathlib.Core.Path.{sym, ◌∙◌}
use Rattle.parts.proofs.Laws.Spoken.{operator_equals, operator_like, operator_numeric, operator_wrong}
use Rattle.parts.proofs.words.operator_named.Goals as goal

pub returns-then-same : goal.returns-then-same
returns-then-same c = sym (operator_equals _ (sym c.same.ensures ∙ c.if-same.true))

pub returns-then-same-2 : goal.returns-then-same-2
returns-then-same-2 c = sym (operator_like _ (sym c.same.ensures
    ∙ c.if-same.false) (sym c.same-2.ensures ∙ c.if-same-2.true))

pub returns-then-same-3 : goal.returns-then-same-3
returns-then-same-3 c = sym (operator_numeric _ (sym c.same.ensures
    ∙ c.if-same.false)
    (sym c.same-2.ensures ∙ c.if-same-2.false)
    (sym c.same-3.ensures ∙ c.if-same-3.true))

pub returns : goal.returns
returns c = sym (operator_wrong _ (sym c.same.ensures
    ∙ c.if-same.false)
    (sym c.same-2.ensures ∙ c.if-same-2.false)
    (sym c.same-3.ensures ∙ c.if-same-3.false))
