-- None of the context entries passed has the key; whichever entries lie in the list are the ones compared.
use mathlib.Core.Path.{sym, ◌∙◌}
use native.Mathlib.Omega.{arith}
use Rattle.held.proofs.Laws.Parts.{context_lying, key_lying, key_lies, value_lying, context_passed}
use Rattle.syntax.specs.Forms.{same_key}
use Rattle.decision.specs.Decision.{value_at}
use Rattle.held.proofs.Laws.Runs.{lies_inside}
use Rattle.held.proofs.Laws.Requests.Lying.{context_inside}
use Rattle.held.proofs.Laws.Coming.{coming_list, lying, coming_lying, coming_now, coming_next}
use Rattle.held.proofs.Laws.Coming.{coming_end}
use Rattle.decision.proofs.Laws.DecidingMeets.{both_same}
use Rattle.decision.proofs.Laws.DecidingContexts.{value_on, finds_here, finds_none}
use Rattle.decision.proofs.deciding.key_place.Goals as goal

pub bounds-request-at : goal.bounds-request-at
bounds-request-at c = lies_inside c.requires.1.lies

pub overflow_add-c : goal.overflow_add-c
overflow_add-c c =
    omega (arith, lies_inside c.requires.1.lies, c.requires.1.lies.bounded)

pub loop-init : goal.loop-init
loop-init c = (omega arith, λ x l. coming_list l)

pub overflow_add-c-in-loop : goal.overflow_add-c-in-loop
overflow_add-c-in-loop c =
    let y = coming_lying (c.loop.invariant.1 c.requires.0 c.requires.1) c.loop-test.true in
    omega (arith, context_inside y.thing y.lies, y.lies.bounded)

pub text_at-requires : goal.text_at-requires
text_at-requires c = key_lying (coming_lying (c.loop.invariant.1 c.requires.0 c.requires.1) c.loop-test.true)

pub returns-then-same_key : goal.returns-then-same_key
returns-then-same_key c =
    λ x xs l m.
    let y = coming_now (c.loop.invariant.1 (lying x l) (lying xs m)) c.loop-test.true in
    let e = both_same same_key (c.text_at-key.ensures x l) (c.text_at.ensures y.head.key (key_lies y.head y.lies))
    c.same_key.ensures in
    finds_here x y.head y.tail (sym e ∙ c.if-same_key.true) y.lies c.loop.invariant.0 y.same

pub behind_label-requires : goal.behind_label-requires
behind_label-requires c =
    context_lying (coming_lying (c.loop.invariant.1 c.requires.0 c.requires.1) c.loop-test.true)

pub past_value-c-requires : goal.past_value-c-requires
past_value-c-requires c =
    value_lying (coming_lying (c.loop.invariant.1 c.requires.0 c.requires.1) c.loop-test.true) c.behind_label.ensures

pub loop-preserved : goal.loop-preserved
loop-preserved c =
    let y = coming_lying (c.loop.invariant.1 c.requires.0 c.requires.1) c.loop-test.true in
    let far = context_passed y.thing y.lies c.behind_label.ensures c.past_value-c.ensures in (
      omega (arith, c.loop.invariant.0, far),
      λ x l.
          coming_next (c.loop.invariant.1 x l) c.loop-test.true _ (value_at x.thing)
          (λ z j. context_passed z j c.behind_label.ensures c.past_value-c.ensures)
          (λ z j zs.
          let e = both_same same_key (c.text_at-key.ensures x.thing x.lies) (c.text_at.ensures z.key (key_lies z j))
          c.same_key.ensures in
          value_on x.thing z zs (sym e ∙ c.if-same_key.false)),
    )

pub returns : goal.returns
returns c =
    λ x xs l m.
    finds_none _ x (coming_end (c.loop.invariant.1 (lying x l) (lying xs m)) c.loop-test.false)
