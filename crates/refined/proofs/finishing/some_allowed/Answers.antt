-- Each turn passes one statement that is no Allow, or is not written.
use mathlib.Core.Path.{refl}
use native.Mathlib.Omega.{arith}
use Rattle.held.specs.Held.{any_of}
use Rattle.held.proofs.Laws.Runs.{lies_inside}
use Rattle.writing.proofs.Laws.Lying.{policy_lies}
use Rattle.refined.specs.Finishing.{refined_policy}
use Rattle.refined.proofs.Laws.KeepingTests.{looking_start, list_looked, looking_lying, sight}
use Rattle.refined.proofs.Laws.KeepingTests.{looking_decided, looking_next, looking_end}
use Rattle.refined.proofs.Laws.KeepingStatements.{statement_many}
use Rattle.refined.proofs.Laws.KeepingPolicy.{policy_count, allow_here, allow_on}
use Rattle.refined.proofs.finishing.some_allowed.Goals as goal

pub bounds-run-0 : goal.bounds-run-0
bounds-run-0 c =
    lies_inside (policy_lies c.requires.thing c.requires.lies)

pub loop-i-init : goal.loop-i-init
loop-i-init c = λ xs k l. looking_start xs k l

pub is_allowed-requires : goal.is_allowed-requires
is_allowed-requires c =
    let y = sight (list_looked c.requires.thing (policy_lies c.requires.thing c.requires.lies)
    c.loop-i.invariant) c.requires.enough c.loop-i-test.true in
    record {
      thing = y.head;
      lies = y.lies;
      enough = omega (arith, y.enough, policy_count y.head y.tail refl, statement_many y.head);
    }

pub returns-then-is_allowed : goal.returns-then-is_allowed
returns-then-is_allowed c =
    λ p l. looking_decided (list_looked p (policy_lies p l) c.loop-i.invariant) c.loop-i-test.true _
    (λ x ys v. allow_here _ x ys (c.is_allowed.ensures x v) c.if-is_allowed.true)

pub statement-q-requires : goal.statement-q-requires
statement-q-requires c =
    looking_lying (list_looked c.requires.thing (policy_lies c.requires.thing c.requires.lies)
    c.loop-i.invariant) c.loop-i-test.true

pub overflow_add-s : goal.overflow_add-s
overflow_add-s c =
    let y = sight (list_looked c.requires.thing (policy_lies c.requires.thing c.requires.lies)
    c.loop-i.invariant) c.requires.enough c.loop-i-test.true in
    omega (
      arith,
      y.enough,
      policy_count y.head y.tail
          (c.statement-q.ensures y.head y.lies).many,
    )

pub loop-i-preserved : goal.loop-i-preserved
loop-i-preserved c =
    λ xs k l. looking_next (c.loop-i.invariant xs k l) c.loop-i-test.true _ _
    (λ x v. (c.statement-q.ensures x v).past)
    (λ x ys v. allow_on _ _ x ys (c.statement-q.ensures x v).many
    (c.is_allowed.ensures x v) c.if-is_allowed.false)
    (λ x ys v. policy_count x ys (c.statement-q.ensures x v).many)

pub returns : goal.returns
unfolding refined_policy any_of
returns c = λ p l. looking_end (list_looked p (policy_lies p l) c.loop-i.invariant) c.loop-i-test.false
