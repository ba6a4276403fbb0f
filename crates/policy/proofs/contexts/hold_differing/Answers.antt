-- Each turn holds one entry behind those before it, or ends the walk: none left, one that is wrong, a key given twice.
use mathlib.Core.Path.{sym, ◌∙◌}
use native.Mathlib.Omega.{arith}
use Rattle.syntax.specs.RecordLayout.{context_of, same_context}
use Rattle.syntax.specs.Members.{then, each, differing}
use Rattle.held.specs.Held.{held_context}
use Rattle.parts.proofs.Laws.Formed.{ends_past, ends_wrong}
use Rattle.parts.proofs.Laws.Differ.{same_context_symmetric}
use Rattle.parts.proofs.Laws.Gathering.{next_holdable, next_resting, next_few}
use Rattle.parts.proofs.Laws.Gathering.{gathering_less}
use Rattle.policy.proofs.Laws.Requests.Fits.{context_fits}
use Rattle.policy.proofs.Laws.Apart.{apart_start, apart_end, apart_past, after, apart_wrong, one_lies}
use Rattle.policy.proofs.Laws.Apart.{many_lie, apart_lying, apart_size, apart_alike, apart_more}
use Rattle.parts.proofs.Laws.Formed.{none_lists}
use Rattle.policy.proofs.contexts.hold_differing.Goals as goal

pub first_element-m-requires : goal.first_element-m-requires
first_element-m-requires c =
    record { what = c.requires.what; stop = c.requires.stop; is = c.requires.is }

pub loop-m-init : goal.loop-m-init
loop-m-init c =
    apart_start held_context context_of context_fits same_context same_context_symmetric c.requires _
    (c.first_element-m.ensures _ _ c.requires.is)

pub shape_of-run-in-Past : goal.shape_of-run-in-Past
shape_of-run-in-Past c = c.loop-m.invariant.gathering.sofar.extends.size

pub returns-in-Past : goal.returns-in-Past
returns-in-Past c =
    λ ts e l. (
      apart_end c.loop-m.invariant _ c.in-Past.is ts e l,
      apart_past c.loop-m.invariant _ c.in-Past.is ts e l,
    )

pub hold_context-requires : goal.hold_context-requires
hold_context-requires c =
    next_holdable held_context context_of context_fits c.loop-m.invariant.gathering _ c.in-At.is

pub shape_of-run-in_err-h-in-At : goal.shape_of-run-in_err-h-in-At
shape_of-run-in_err-h-in-At c = c.hold_context.auto.run ∙ c.loop-m.invariant.gathering.sofar.extends.size

pub returns-in_err-h-in-At : goal.returns-in_err-h-in-At
returns-in_err-h-in-At c =
    λ ts e p. none_lists held_context c.args.run.now _ c.args.at (then (each context_of ts) (differing same_context)) _ c.from_residual.ensures
    ((let a = after c.loop-m.invariant _ c.in-At.is in
    apart_wrong c.loop-m.invariant _ c.in-At.is (ends_wrong held_context c.loop-m.run
    c.hold_context.new.run c.loop-m.past (context_of a.head) a.stop
    (c.hold_context.ensures _ _ a.stands) c.in_err-h-in-At.was)) ts e p)

pub has_context_key-requires : goal.has_context_key-requires
has_context_key-requires c = apart_lying c.loop-m.invariant _ c.in-At.is ((let a = after c.loop-m.invariant _ c.in-At.is in
    ends_past held_context c.loop-m.run c.hold_context.new.run c.loop-m.past
    (context_of a.head) a.stop (c.hold_context.ensures _ _ a.stands) c.in_ok-h-in-At.was)).0

pub shape_of-run-then-has_context_key : goal.shape_of-run-then-has_context_key
shape_of-run-then-has_context_key c = apart_size c.loop-m.invariant _ c.in-At.is ((let a = after c.loop-m.invariant _ c.in-At.is in
    ends_past held_context c.loop-m.run c.hold_context.new.run c.loop-m.past
    (context_of a.head) a.stop (c.hold_context.ensures _ _ a.stands) c.in_ok-h-in-At.was)).0

pub returns-then-has_context_key : goal.returns-then-has_context_key
returns-then-has_context_key c =
    let d = ((let a = after c.loop-m.invariant _ c.in-At.is in
    ends_past held_context c.loop-m.run c.hold_context.new.run c.loop-m.past
    (context_of a.head) a.stop (c.hold_context.ensures _ _ a.stands) c.in_ok-h-in-At.was)).0 in
    apart_alike c.loop-m.invariant _ c.in-At.is d
    (sym (c.has_context_key.ensures _ _ c.loop-m.invariant.gathering.count (many_lie c.loop-m.invariant _ c.in-At.is d)
    (one_lies c.loop-m.invariant _ c.in-At.is d))
    ∙ c.if-has_context_key.true)

pub overflow_add-count : goal.overflow_add-count
overflow_add-count c = omega (arith, next_few held_context context_of context_fits c.loop-m.invariant.gathering _ c.in-At.is)

pub next_element-m-requires : goal.next_element-m-requires
next_element-m-requires c =
    next_resting held_context context_of context_fits c.loop-m.invariant.gathering _ c.in-At.is ((let a = after c.loop-m.invariant _ c.in-At.is in
    ends_past held_context c.loop-m.run c.hold_context.new.run c.loop-m.past
    (context_of a.head) a.stop (c.hold_context.ensures _ _ a.stands) c.in_ok-h-in-At.was)).1

pub loop-m-smaller : goal.loop-m-smaller
loop-m-smaller c =
    gathering_less held_context context_of context_fits c.loop-m.invariant.gathering _ c.in-At.is
    _ _ ((let a = after c.loop-m.invariant _ c.in-At.is in
    ends_past held_context c.loop-m.run c.hold_context.new.run c.loop-m.past
    (context_of a.head) a.stop (c.hold_context.ensures _ _ a.stands) c.in_ok-h-in-At.was)).1 c.next_element-m.ensures

pub loop-m-preserved : goal.loop-m-preserved
loop-m-preserved c =
    let d = ((let a = after c.loop-m.invariant _ c.in-At.is in
    ends_past held_context c.loop-m.run c.hold_context.new.run c.loop-m.past
    (context_of a.head) a.stop (c.hold_context.ensures _ _ a.stands) c.in_ok-h-in-At.was)).0 in
    apart_more c.loop-m.invariant _ c.in-At.is d
    (sym (c.has_context_key.ensures _ _ c.loop-m.invariant.gathering.count (many_lie c.loop-m.invariant _ c.in-At.is d)
    (one_lies c.loop-m.invariant _ c.in-At.is d))
    ∙ c.if-has_context_key.false)
    _ _ ((let a = after c.loop-m.invariant _ c.in-At.is in
    ends_past held_context c.loop-m.run c.hold_context.new.run c.loop-m.past
    (context_of a.head) a.stop (c.hold_context.ensures _ _ a.stands) c.in_ok-h-in-At.was)).1 c.next_element-m.ensures
