-- Each turn passes one statement and its rows, and puts it behind those before it where it is left.
use mathlib.Core.Path.{refl}
use native.Mathlib.Omega.{arith}
use Rattle.held.proofs.Laws.Runs.{lies_inside}
use Rattle.writing.specs.Bytes.{listed}
use Rattle.writing.proofs.Laws.Showing.{adds_as, adds_then}
use Rattle.writing.proofs.Laws.Telling.{telling_start, telling_next, telling_end, list_told}
use Rattle.writing.proofs.Laws.Lying.{policy_lies}
use Rattle.writing.proofs.Laws.BytesPolicy.{policy_bytes_lem}
use Rattle.refined.specs.Finishing.{refined_policy}
use Rattle.refined.proofs.Laws.KeepingLists.{turn_lying}
use Rattle.refined.proofs.Laws.KeepingTests.{looking_start, looking_next}
use Rattle.refined.proofs.Laws.KeepingPolicy.{policy_turn}
use Rattle.refined.proofs.Laws.KeepingPolicy.{policy_count, left_enough, left_writ, left_behind, left_far}
use Rattle.refined.proofs.Laws.KeepingPolicy.{left_piece, counted_ready}
use Rattle.refined.proofs.finishing.put_refined.Goals as goal

pub bounds-run-0 : goal.bounds-run-0
bounds-run-0 c =
    lies_inside (policy_lies c.requires.policy c.requires.lies)

pub loop-i-init : goal.loop-i-init
loop-i-init c = (λ xs k l u. telling_start xs k l u, λ xs k l. looking_start xs k l)

pub put_next_left-k-requires : goal.put_next_left-k-requires
put_next_left-k-requires c =
    let y = policy_turn c.requires c.loop-i.invariant.0 c.loop-i-test.true in (
      record { thing = y.head; lies = y.lies; enough = left_enough y.known; writ = left_writ y.known },
      left_behind y.known,
    )

pub statement-q-requires : goal.statement-q-requires
statement-q-requires c =
    turn_lying (policy_turn c.requires c.loop-i.invariant.0 c.loop-i-test.true)

pub overflow_add-s : goal.overflow_add-s
overflow_add-s c =
    let y = policy_turn c.requires c.loop-i.invariant.0 c.loop-i-test.true in omega
    (arith, left_far y.known (c.statement-q.ensures y.head y.lies).many)

pub loop-i-preserved : goal.loop-i-preserved
loop-i-preserved c = (
  λ xs k l u. telling_next (c.loop-i.invariant.0 xs k l u) c.loop-i-test.true _ _ _
      (λ x ys m v. left_piece v (c.statement-q.ensures x m).many (c.loop-i.invariant.0 xs k l u)
      (c.statement-q.ensures x m).past
      (c.put_next_left-k.ensures
      (record { thing = x; lies = m; enough = left_enough v; writ = left_writ v }))),
  λ xs k l. looking_next (c.loop-i.invariant.1 xs k l) c.loop-i-test.true _ _
      (λ x m. (c.statement-q.ensures x m).past)
      (λ x ys m. refl) (λ x ys m. policy_count x ys (c.statement-q.ensures x m).many),
)

pub returns : goal.returns
unfolding listed refined_policy
returns c =
    λ p l w.
    let ready = counted_ready c.requires c.loop-i.invariant.1 c.loop-i-test.false p l w in
    let all = list_told p (policy_lies p l) ready c.loop-i.invariant.0 in
    adds_as (policy_bytes_lem (refined_policy p _)) (adds_then c.put_bytes.ensures
    (adds_then (telling_end all c.loop-i-test.false refl) c.put_bytes-2.ensures))
