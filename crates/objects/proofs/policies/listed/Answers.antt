-- Each turn passes one statement behind those before it, whose Sid none of them has; behind the last the list ends.
use mathlib.Core.Path.{◌∙◌}
use mathlib.Core.Logic.{inl, inr}
use native.Mathlib.Omega.{arith}
use Rattle.straight.proofs.Laws.Reads.{reads_inside}
use Rattle.straight.proofs.Laws.Going.{going_fits, going_less}
use Rattle.straight.proofs.Laws.Differing.{differing_roomy}
use Rattle.objects.proofs.Laws.Words.{ok_or_some}
use Rattle.objects.proofs.Laws.Policies.{statements}
use Rattle.objects.proofs.Laws.Listed.{listing_start, listing_passed, listing_lying, listing_new}
use Rattle.objects.proofs.Laws.Listed.{listing_more, listing_end, counts_left, next_stuck}
use Rattle.objects.proofs.policies.listed.Goals as goal
use Rattle.objects.proofs.policies.listed.Goals.{then-n-lt-FEW, else-n-lt-FEW}

pub loop-h-init : goal.loop-h-init
loop-h-init c =
    listing_start c.requires (c.opened.ensures.found _ (ok_or_some _ _ c.ok_or.ensures.value c.in_ok-i.was))

pub statement-requires : goal.statement-requires
statement-requires c = differing_roomy statements c.loop-h.invariant.differing

pub shape_of-run-in-Err : goal.shape_of-run-in-Err
shape_of-run-in-Err c =
    c.statement.auto.run ∙ c.loop-h.invariant.differing.going.extends.size

pub returns-in-Err : goal.returns-in-Err
returns-in-Err c =
    counts_left c.loop-h.invariant.reached c.loop-h.invariant.differing.going c.statement.new.run
    c.loop-h.invariant.differing.going.extends.size c.statement.ensures c.in-Err.is c.inside.ensures

pub repeats-requires : goal.repeats-requires
repeats-requires c = listing_lying c.loop-h.invariant c.in-Ok.ensures

pub shape_of-run-then-repeats : goal.shape_of-run-then-repeats
shape_of-run-then-repeats c = (c.in-Ok.ensures.laid.extends.size ∙ c.loop-h.invariant.differing.going.extends.size)

pub returns-then-repeats : goal.returns-then-repeats
returns-then-repeats c = (
  (c.in-Ok.ensures.laid.extends.size ∙ c.loop-h.invariant.differing.going.extends.size),
  next_stuck c.loop-h.invariant.reached c.in-Ok.ensures,
)

pub overflow_add-n : goal.overflow_add-n
overflow_add-n c =
    omega (
      arith,
      going_fits statements.frame _ c.loop-h.invariant.differing.going (listing_passed c.loop-h.invariant c.in-Ok.ensures),
    )

pub parted-requires : goal.parted-requires
parted-requires c = reads_inside c.in-Ok.ensures.reads

pub closed-requires : goal.closed-requires
closed-requires c = reads_inside c.in-Ok.ensures.reads

pub shape_of-run-in_default : goal.shape_of-run-in_default
shape_of-run-in_default c = (c.in-Ok.ensures.laid.extends.size ∙ c.loop-h.invariant.differing.going.extends.size)

pub returns-in_default : goal.returns-in_default
returns-in_default c =
    let new = listing_new c.loop-h.invariant c.in-Ok.ensures _ c.repeats.ensures c.if-repeats.false in
    listing_end c.loop-h.invariant c.in-Ok.ensures new c.closed.result c.closed.ensures

pub loop-h-smaller : goal.loop-h-smaller
loop-h-smaller c =
    going_less statements.frame _ c.loop-h.invariant.differing.going (listing_passed c.loop-h.invariant c.in-Ok.ensures)
    (c.parted.ensures.found _ c.in-Some.is)

pub loop-h-preserved : goal.loop-h-preserved
loop-h-preserved c =
    let taken = c.in-Ok.ensures in
    let new = listing_new c.loop-h.invariant taken _ c.repeats.ensures c.if-repeats.false in
    let parted = c.parted.ensures.found _ c.in-Some.is in
    elim c.if-n-lt-FEW.branch [
      | then-n-lt-FEW w ↦ listing_more c.loop-h.invariant taken new parted (inl (w.if-n-lt-FEW.true, w.places-is))
      | else-n-lt-FEW w ↦ listing_more c.loop-h.invariant taken new parted (inr (w.if-n-lt-FEW.false, w.places-is))
    ]
