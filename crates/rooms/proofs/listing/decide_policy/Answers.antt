-- Each turn passes one statement, kept in mind where it is the first that holds, and notes what it charges; a Deny that
-- holds ends the walk.
use native.Mathlib.Omega.{arith}
use Rattle.held.proofs.Laws.RunsStatement.{policy_inside}
use Rattle.decision.specs.Decision.{part_of}
use Rattle.decision.proofs.Laws.DecidingOrder.{none_told}
use Rattle.rooms.proofs.Laws.Judging.{judging_start, judging_next, judging_size, judging_noting}
use Rattle.rooms.proofs.Laws.Judging.{judging_lying, judged_denied, judged_implicit, judged_allowed}
use Rattle.rooms.proofs.listing.decide_policy.Goals as goal

pub bounds-run-0 : goal.bounds-run-0
bounds-run-0 c =
    policy_inside c.requires.0.thing c.requires.0.lies

pub loop-i-init : goal.loop-i-init
loop-i-init c = λ x q l m. judging_start x q l

pub first_failing-requires : goal.first_failing-requires
first_failing-requires c =
    (judging_lying c.loop-i.invariant c.requires c.loop-i-test.true, c.requires.1)

pub is_denying-requires : goal.is_denying-requires
is_denying-requires c =
    judging_lying c.loop-i.invariant c.requires c.loop-i-test.true

pub overflow_add-result : goal.overflow_add-result
overflow_add-result c =
    omega (arith, c.loop-i-test.true, c.shared_slice_known-3-1.given 0)

pub shape_of-dir-then-is_denying : goal.shape_of-dir-then-is_denying
shape_of-dir-then-is_denying c =
    judging_size c.loop-i.invariant c.requires

pub returns-then-is_denying : goal.returns-then-is_denying
returns-then-is_denying c =
    λ x q l m.
    judged_denied (c.loop-i.invariant x q l m) c.loop-i-test.true
    (λ s k. none_told (part_of s q) (c.first_failing.ensures s q k m) c.is_none-holds.ensures)
    c.is_denying.ensures (judging_size c.loop-i.invariant c.requires) c.if-is_denying.true

pub list_if-g-requires : goal.list_if-g-requires
list_if-g-requires c =
    (judging_noting c.loop-i.invariant c.requires c.loop-i-test.true, c.requires.1)

pub loop-i-preserved : goal.loop-i-preserved
loop-i-preserved c =
    λ x q l m.
    judging_next (c.loop-i.invariant x q l m) c.loop-i-test.true
    (λ s k. none_told (part_of s q) (c.first_failing.ensures s q k m) c.is_none-holds.ensures)
    c.is_denying.ensures c.if-is_denying.false c.first_of-allowed.ensures
    (λ s k. c.list_if-g.ensures s q k m)

pub shape_of-dir-then-allowed-eq0 : goal.shape_of-dir-then-allowed-eq0
shape_of-dir-then-allowed-eq0 c =
    judging_size c.loop-i.invariant c.requires

pub returns-then-allowed-eq0 : goal.returns-then-allowed-eq0
returns-then-allowed-eq0 c =
    λ x q l m. judged_implicit (c.loop-i.invariant x q l m) c.loop-i-test.false c.if-allowed-eq0.true

pub shape_of-dir : goal.shape_of-dir
shape_of-dir c =
    judging_size c.loop-i.invariant c.requires

pub returns : goal.returns
returns c =
    λ x q l m. judged_allowed (c.loop-i.invariant x q l m) c.loop-i-test.false c.if-allowed-eq0.false
