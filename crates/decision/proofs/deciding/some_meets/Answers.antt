-- None of the entries passed meets the value; whichever entries lie in the list are the ones tried.
use mathlib.Core.Path.{sym, ◌∙◌}
use mathlib.Core.Bool.{true}
use native.Mathlib.Omega.{arith}
use Rattle.held.specs.Held.{any_of}
use Rattle.decision.specs.Decision.{meets}
use Rattle.held.proofs.Laws.Runs.{lies_inside}
use Rattle.held.proofs.Laws.Coming.{coming_list, lying, coming_lying, coming_decided}
use Rattle.held.proofs.Laws.Coming.{coming_next, coming_end, any_here, any_on}
use Rattle.decision.proofs.deciding.some_meets.Goals as goal

pub bounds-policy-at : goal.bounds-policy-at
bounds-policy-at c = lies_inside c.requires.1.lies

pub overflow_add-e : goal.overflow_add-e
overflow_add-e c =
    omega (arith, lies_inside c.requires.1.lies, c.requires.1.lies.bounded)

pub loop-init : goal.loop-init
loop-init c = λ o l y. coming_list l

pub meets_at-requires : goal.meets_at-requires
meets_at-requires c =
    let w = c.loop.invariant c.requires.0 c.requires.1 c.requires.2 in
    (coming_lying w c.loop-test.true, c.requires.2)

pub returns-then-meets_at : goal.returns-then-meets_at
returns-then-meets_at c =
    λ o xs y f l m.
    let w = c.loop.invariant (record { operator = o; is = f }) (lying xs l) (lying y m) in
    coming_decided w c.loop-test.true true
    (λ x z zs. any_here (λ u. meets o u y) x zs (sym (c.meets_at.ensures o x y f z m) ∙ c.if-meets_at.true))

pub past_value-e-requires : goal.past_value-e-requires
past_value-e-requires c =
    coming_lying (c.loop.invariant c.requires.0 c.requires.1 c.requires.2) c.loop-test.true

pub loop-preserved : goal.loop-preserved
loop-preserved c =
    λ o l y.
    coming_next (c.loop.invariant o l y) c.loop-test.true _
    (any_of (λ x. meets o.operator x y.thing))
    (λ x z. c.past_value-e.ensures x z)
    (λ x z zs. any_on (λ u. meets o.operator u y.thing) x zs
    (sym (c.meets_at.ensures o.operator x y.thing o.is z y.lies) ∙ c.if-meets_at.false))

pub returns : goal.returns
unfolding any_of
returns c =
    λ o xs y f l m.
    coming_end (c.loop.invariant (record { operator = o; is = f }) (lying xs l) (lying y m)) c.loop-test.false
