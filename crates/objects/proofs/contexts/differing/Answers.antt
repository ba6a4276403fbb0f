-- Each turn passes one entry behind those before it, whose key none of them has; behind the last the list ends.
use mathlib.Core.Path.{◌∙◌}
use native.Mathlib.Omega.{arith}
use Rattle.syntax.specs.RecordLayout.{context_of}
use Rattle.held.specs.Held.{held_context}
use Rattle.straight.proofs.Laws.Going.{going_size, going_fits, going_less}
use Rattle.straight.proofs.Laws.Lists.{element_passed}
use Rattle.straight.proofs.Laws.Differing.{differing_start, differing_roomy, differing_lying}
use Rattle.straight.proofs.Laws.Differing.{differing_new, differing_more, differing_end}
use Rattle.objects.proofs.Laws.Contexts.{entries, contexts_from, entries_mean}
use Rattle.straight.proofs.Laws.Taking.{none_several}
use Rattle.objects.proofs.contexts.differing.Goals as goal

pub loop-h-init : goal.loop-h-init
loop-h-init c =
    differing_start entries c.requires (c.opened.ensures.found _ c.in_ok-i.was)

pub context-requires : goal.context-requires
context-requires c = differing_roomy entries c.loop-h.invariant

pub returns-in_err-h : goal.returns-in_err-h
returns-in_err-h c =
    none_several _ _ _ _ _ _ _ _ c.from_residual-in_err-h.ensures (c.context.auto.run ∙ c.loop-h.invariant.going.extends.size)

pub has_context_key-requires : goal.has_context_key-requires
has_context_key-requires c = differing_lying entries c.loop-h.invariant (element_passed held_context context_of 2 c.in_ok-h.ensures)

pub returns-then-has_context_key : goal.returns-then-has_context_key
returns-then-has_context_key c = going_size entries.frame _ c.loop-h.invariant.going (element_passed held_context context_of 2 c.in_ok-h.ensures)

pub overflow_add-count : goal.overflow_add-count
overflow_add-count c = omega (arith, going_fits entries.frame _ c.loop-h.invariant.going (element_passed held_context context_of 2 c.in_ok-h.ensures))

pub parted-requires : goal.parted-requires
parted-requires c = (element_passed held_context context_of 2 c.in_ok-h.ensures).inside

pub closed-requires : goal.closed-requires
closed-requires c = (element_passed held_context context_of 2 c.in_ok-h.ensures).inside

pub returns-in_default : goal.returns-in_default
returns-in_default c =
    let passed = element_passed held_context context_of 2 c.in_ok-h.ensures in
    let new = differing_new entries c.loop-h.invariant passed _ c.has_context_key.ensures c.if-has_context_key.false in
    differing_end entries c.loop-h.invariant passed new contexts_from entries_mean (c.closed.ensures.found _ c.in_ok-end.was)

pub loop-h-smaller : goal.loop-h-smaller
loop-h-smaller c =
    going_less entries.frame _ c.loop-h.invariant.going (element_passed held_context context_of 2 c.in_ok-h.ensures)
    (c.parted.ensures.found _ c.in-Some.is)

pub loop-h-preserved : goal.loop-h-preserved
loop-h-preserved c =
    let passed = element_passed held_context context_of 2 c.in_ok-h.ensures in
    let new = differing_new entries c.loop-h.invariant passed _ c.has_context_key.ensures c.if-has_context_key.false in
    differing_more entries c.loop-h.invariant passed new (c.parted.ensures.found _ c.in-Some.is)
