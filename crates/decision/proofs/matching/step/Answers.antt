-- Each answer is the definition at the tests passed on the way to it.
use mathlib.Core.Path.{sym, ◌∙◌}
use borrow.Author.Tests.{eq-eqb, ne_eqb}
use Rattle.decision.specs.Matching.{at_end, at_symbol, next}
use Rattle.decision.proofs.matching.step.Goals as goal

pub returns-then-j-text : goal.returns-then-j-text
unfolding next at_end
returns-then-j-text c = simp (eq-eqb _ _ c.if-i-entry.true, eq-eqb _ _ c.if-j-text.true)

pub returns-then-at-i : goal.returns-then-at-i
unfolding next at_end
returns-then-at-i c =
    simp (eq-eqb _ _ c.if-i-entry.true, ne_eqb _ _ c.if-j-text.false, eq-eqb _ _ c.if-at-i.true)

pub returns-then-i-entry : goal.returns-then-i-entry
unfolding next at_end
returns-then-i-entry c =
    simp (eq-eqb _ _ c.if-i-entry.true, ne_eqb _ _ c.if-j-text.false, ne_eqb _ _ c.if-at-i.false)
    c.retry.ensures

pub returns-then-x-eq-STAR : goal.returns-then-x-eq-STAR
unfolding next at_symbol
returns-then-x-eq-STAR c = simp (ne_eqb _ _ c.if-i-entry.false, eq-eqb _ _ c.if-x-eq-STAR.true)

pub returns-then-j-text-2 : goal.returns-then-j-text-2
unfolding next at_symbol
returns-then-j-text-2 c =
    simp (ne_eqb _ _ c.if-i-entry.false, ne_eqb _ _ c.if-x-eq-STAR.false, eq-eqb _ _ c.if-j-text-2.true)

pub returns-then-not-stands : goal.returns-then-not-stands
unfolding next at_symbol
returns-then-not-stands c =
    simp (
      ne_eqb _ _ c.if-i-entry.false,
      ne_eqb _ _ c.if-x-eq-STAR.false,
      ne_eqb _ _ c.if-j-text-2.false,
      sym c.stands.ensures ∙ c.if-not-stands.true,
    )
    c.retry-then-not-stands.ensures

pub returns : goal.returns
unfolding next at_symbol
returns c =
    simp (
      ne_eqb _ _ c.if-i-entry.false,
      ne_eqb _ _ c.if-x-eq-STAR.false,
      ne_eqb _ _ c.if-j-text-2.false,
      sym c.stands.ensures ∙ c.if-not-stands.false,
    )
