-- None of the statements passed has the Sid; whichever statements lie at the places are the ones compared.
use mathlib.Core.Path.{sym, ◌∙◌}
use Rattle.held.proofs.Laws.Placed.{left_lying, left_found, left_next, left_end}
use Rattle.held.proofs.runs.has_sid_at.Goals as goal

pub same_sid_at-requires : goal.same_sid_at-requires
same_sid_at-requires c =
    let w = c.loop-i.invariant c.requires.0.end c.requires.0.things c.requires.1.thing c.requires.0.placed c.requires.1.lies in
    (c.requires.1, left_lying w c.loop-i-test.true)

pub returns-then-same_sid_at : goal.returns-then-same_sid_at
returns-then-same_sid_at c =
    λ e xs x g m.
    sym (left_found (c.loop-i.invariant e xs x g m) c.loop-i-test.true
    (λ y z. sym (c.same_sid_at.ensures x y m z) ∙ c.if-same_sid_at.true))

pub loop-i-preserved : goal.loop-i-preserved
loop-i-preserved c =
    λ e xs x g m.
    left_next (c.loop-i.invariant e xs x g m) c.loop-i-test.true
    (λ y z. sym (c.same_sid_at.ensures x y m z) ∙ c.if-same_sid_at.false)

pub returns : goal.returns
returns c = λ e xs x g m. sym (left_end (c.loop-i.invariant e xs x g m) c.loop-i-test.false)
