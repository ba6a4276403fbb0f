-- Each turn puts one statement behind those before it.
use Prim.{tt}
use mathlib.Core.Path.{refl}
use native.Mathlib.Omega.{arith}
use Rattle.writing.specs.Bytes.{listed}
use Rattle.writing.proofs.Laws.Showing.{adds_as, adds_then}
use Rattle.writing.proofs.Laws.Telling.{telling_start, telling_lying, telling_next}
use Rattle.writing.proofs.Laws.Telling.{telling_end, list_told}
use Rattle.writing.proofs.Laws.Lying.{listed_piece, policy_list, policy_lies}
use Rattle.held.proofs.Laws.Runs.{lies_inside}
use Rattle.writing.proofs.Laws.BytesPolicy.{policy_bytes_lem}
use Rattle.writing.proofs.policies.put_policy.Goals as goal

pub bounds-run-0 : goal.bounds-run-0
bounds-run-0 c = lies_inside (policy_list c.requires).lies

pub overflow_cast-n : goal.overflow_cast-n
overflow_cast-n c = omega (arith, c.shared_slice_known-2-1.given 0)

pub loop-i-init : goal.loop-i-init
loop-i-init c = λ xs k l u. telling_start xs k l u

pub put_statement-requires : goal.put_statement-requires
put_statement-requires c =
    telling_lying (list_told c.requires.thing (policy_lies c.requires.thing c.requires.lies) tt
    c.loop-i.invariant) c.loop-i-test.true

pub statement-p-requires : goal.statement-p-requires
statement-p-requires c =
    telling_lying (list_told c.requires.thing (policy_lies c.requires.thing c.requires.lies) tt
    c.loop-i.invariant) c.loop-i-test.true

pub loop-i-preserved : goal.loop-i-preserved
loop-i-preserved c =
    λ xs k l _. telling_next (c.loop-i.invariant xs k l tt) c.loop-i-test.true _ _ _
    (λ x ys m _. listed_piece _ (c.loop-i.invariant xs k l tt) x ys (c.statement-p.ensures x m).past
    c.put_between.ensures (c.put_statement.ensures x m))

pub returns : goal.returns
unfolding listed
returns c =
    λ xs l.
    let m = policy_lies xs l in
    adds_as (policy_bytes_lem xs) (adds_then c.put_bytes.ensures
    (adds_then (telling_end (list_told xs m tt c.loop-i.invariant) c.loop-i-test.false refl)
    c.put_bytes-2.ensures))
