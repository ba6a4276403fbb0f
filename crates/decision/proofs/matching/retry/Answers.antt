-- The one test of the definition.
use borrow.Author.Tests.{eq-eqb, ne_eqb}
use Rattle.decision.specs.Matching.{retry}
use Rattle.decision.proofs.matching.retry.Goals as goal

pub returns-then-at-eq0 : goal.returns-then-at-eq0
unfolding retry
returns-then-at-eq0 c = simp (eq-eqb _ _ c.if-at-eq0.true)

pub returns : goal.returns
unfolding retry
returns c = simp (ne_eqb _ _ c.if-at-eq0.false)
