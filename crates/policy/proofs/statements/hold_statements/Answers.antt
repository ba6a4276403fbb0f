-- Each turn holds one statement behind those before it, unless one of them has its Sid, or ends the walk.
use mathlib.Core.Path.{sym, ◌∙◌}
use Rattle.syntax.specs.PolicyLayout.{statement_of, same_sid}
use Rattle.syntax.specs.Members.{then, each, differing}
use Rattle.held.specs.Held.{held_statement}
use Rattle.parts.proofs.Laws.Formed.{ends_past, ends_wrong}
use Rattle.policy.proofs.Laws.FitsPolicy.{statement_fits}
use Rattle.parts.proofs.Laws.Gathering.{next_holdable, next_resting, next_few}
use Rattle.parts.proofs.Laws.Gathering.{gathering_less}
use Rattle.parts.proofs.Laws.Differ.{same_sid_symmetric}
use Rattle.policy.proofs.Laws.Apart.{apart_start, apart_end, apart_past, after, apart_wrong, many_lie}
use Rattle.policy.proofs.Laws.Apart.{one_lies, apart_lying, apart_size, apart_alike, apart_more}
use borrow.Author.Rules.{rules}
use Rattle.parts.proofs.Laws.Formed.{none_lists}
use Rattle.policy.proofs.statements.hold_statements.Goals as goal

pub first_element-m-requires : goal.first_element-m-requires
first_element-m-requires c =
    record { what = c.requires.what; stop = c.requires.stop; is = c.requires.is }

pub loop-m-init : goal.loop-m-init
loop-m-init c =
    apart_start held_statement statement_of statement_fits same_sid same_sid_symmetric c.requires _
    (c.first_element-m.ensures _ _ c.requires.is)

pub hold_statement-requires : goal.hold_statement-requires
hold_statement-requires c =
    next_holdable held_statement statement_of statement_fits c.loop-m.invariant.gathering _ c.in-At.is

pub shape_of-run-in_err-h-in-At : goal.shape_of-run-in_err-h-in-At
shape_of-run-in_err-h-in-At c =
    c.hold_statement.auto.run ∙ c.loop-m.invariant.gathering.sofar.extends.size

pub returns-in_err-h-in-At : goal.returns-in_err-h-in-At
returns-in_err-h-in-At c =
    λ ts e p. none_lists held_statement c.args.run.now _ c.args.at (then (each statement_of ts) (differing same_sid)) _ c.from_residual.ensures
    ((let a = after c.loop-m.invariant _ c.in-At.is in
    apart_wrong c.loop-m.invariant _ c.in-At.is (ends_wrong held_statement c.loop-m.run
    c.hold_statement.new.run c.loop-m.past (statement_of a.head) a.stop
    (c.hold_statement.ensures _ _ a.stands) c.in_err-h-in-At.was)) ts e p)

pub has_sid-requires : goal.has_sid-requires
has_sid-requires c =
    apart_lying c.loop-m.invariant _ c.in-At.is ((let a = after c.loop-m.invariant _ c.in-At.is in
    ends_past held_statement c.loop-m.run c.hold_statement.new.run c.loop-m.past
    (statement_of a.head) a.stop (c.hold_statement.ensures _ _ a.stands) c.in_ok-h-in-At.was)).0

pub shape_of-run-then-has_sid : goal.shape_of-run-then-has_sid
shape_of-run-then-has_sid c =
    apart_size c.loop-m.invariant _ c.in-At.is ((let a = after c.loop-m.invariant _ c.in-At.is in
    ends_past held_statement c.loop-m.run c.hold_statement.new.run c.loop-m.past
    (statement_of a.head) a.stop (c.hold_statement.ensures _ _ a.stands) c.in_ok-h-in-At.was)).0

pub returns-then-has_sid : goal.returns-then-has_sid
returns-then-has_sid c =
    let d = ((let a = after c.loop-m.invariant _ c.in-At.is in
    ends_past held_statement c.loop-m.run c.hold_statement.new.run c.loop-m.past
    (statement_of a.head) a.stop (c.hold_statement.ensures _ _ a.stands) c.in_ok-h-in-At.was)).0 in
    apart_alike c.loop-m.invariant _ c.in-At.is d
    (sym (c.has_sid.ensures _ _ c.loop-m.invariant.gathering.count (many_lie c.loop-m.invariant _ c.in-At.is d)
    (one_lies c.loop-m.invariant _ c.in-At.is d))
    ∙ c.if-has_sid.true)

pub overflow_add-count : goal.overflow_add-count
overflow_add-count c =
    let few = next_few held_statement statement_of statement_fits c.loop-m.invariant.gathering _
    c.in-At.is in
    search rules

pub next_element-m-requires : goal.next_element-m-requires
next_element-m-requires c =
    next_resting held_statement statement_of statement_fits c.loop-m.invariant.gathering _
    c.in-At.is ((let a = after c.loop-m.invariant _ c.in-At.is in
    ends_past held_statement c.loop-m.run c.hold_statement.new.run c.loop-m.past
    (statement_of a.head) a.stop (c.hold_statement.ensures _ _ a.stands) c.in_ok-h-in-At.was)).1

pub loop-m-smaller : goal.loop-m-smaller
loop-m-smaller c =
    gathering_less held_statement statement_of statement_fits c.loop-m.invariant.gathering _
    c.in-At.is _ _ ((let a = after c.loop-m.invariant _ c.in-At.is in
    ends_past held_statement c.loop-m.run c.hold_statement.new.run c.loop-m.past
    (statement_of a.head) a.stop (c.hold_statement.ensures _ _ a.stands) c.in_ok-h-in-At.was)).1 c.next_element-m.ensures

pub loop-m-preserved : goal.loop-m-preserved
loop-m-preserved c =
    let d = ((let a = after c.loop-m.invariant _ c.in-At.is in
    ends_past held_statement c.loop-m.run c.hold_statement.new.run c.loop-m.past
    (statement_of a.head) a.stop (c.hold_statement.ensures _ _ a.stands) c.in_ok-h-in-At.was)).0 in
    apart_more c.loop-m.invariant _ c.in-At.is d
    (sym (c.has_sid.ensures _ _ c.loop-m.invariant.gathering.count (many_lie c.loop-m.invariant _ c.in-At.is d)
    (one_lies c.loop-m.invariant _ c.in-At.is d))
    ∙ c.if-has_sid.false)
    _ _ ((let a = after c.loop-m.invariant _ c.in-At.is in
    ends_past held_statement c.loop-m.run c.hold_statement.new.run c.loop-m.past
    (statement_of a.head) a.stop (c.hold_statement.ensures _ _ a.stands) c.in_ok-h-in-At.was)).1 c.next_element-m.ensures

pub shape_of-run-in-Past : goal.shape_of-run-in-Past
shape_of-run-in-Past c = c.loop-m.invariant.gathering.sofar.extends.size

pub returns-in-Past : goal.returns-in-Past
returns-in-Past c =
    λ ts e p. (
      apart_end c.loop-m.invariant _ c.in-Past.is ts e p,
      apart_past c.loop-m.invariant _ c.in-Past.is ts e p,
    )
