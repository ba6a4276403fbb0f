-- Each turn holds one row behind those before it; a key that one of them has, or a wrong row, ends the walk.
use mathlib.Core.Path.{sym, ◌∙◌}
use Rattle.syntax.specs.Members.{then, members, differing}
use Rattle.syntax.specs.PolicyLayout.{row_of, same_row}
use Rattle.held.specs.Held.{held_row}
use Rattle.parts.specs.Spoken.{operator_is}
use Rattle.parts.proofs.Laws.Formed.{ends_past, ends_wrong}
use Rattle.policy.proofs.Laws.Rows.{apart_start, apart_end, apart_past, here, here_member}
use Rattle.policy.proofs.Laws.Rows.{here_continuing, here_less, apart_wrong, rows_lie, row_lies, row_lying}
use Rattle.policy.proofs.Laws.Rows.{apart_size, apart_twice, apart_few, apart_more}
use borrow.Author.Rules.{rules}
use Rattle.parts.proofs.Laws.Formed.{none_lists}
use Rattle.policy.proofs.rows.hold_rows.Goals as goal

pub first_member-m-requires : goal.first_member-m-requires
first_member-m-requires c = record {
  what = c.requires.what;
  stop = c.requires.stop;
  is =
      c.requires.is;
}

pub loop-m-init : goal.loop-m-init
loop-m-init c = apart_start (operator_is c.args.o) c.requires _
    (c.first_member-m.ensures _ _ c.requires.is)

pub hold_row-requires : goal.hold_row-requires
hold_row-requires c = here_member
    (operator_is c.args.o)
    c.loop-m.invariant _ _ _ c.in-Named.is

pub shape_of-run-in_err-h-in-Named : goal.shape_of-run-in_err-h-in-Named
shape_of-run-in_err-h-in-Named c =
    (ends_wrong held_row _ _ _ _ _ (c.hold_row.ensures _ _
    (here (operator_is c.args.o) c.loop-m.invariant _ _ _ c.in-Named.is).stands)
    c.in_err-h-in-Named.was).size ∙ c.loop-m.invariant.going.sofar.extends.size

pub returns-in_err-h-in-Named : goal.returns-in_err-h-in-Named
returns-in_err-h-in-Named c =
    λ ts e p. none_lists held_row c.args.run.now _ c.args.at (then (members (row_of (operator_is c.args.o)) ts) (differing same_row)) _ c.from_residual.ensures
    ((apart_wrong (operator_is c.args.o) c.loop-m.invariant _ _ _ c.in-Named.is
    (ends_wrong held_row _ _ _ _ _ (c.hold_row.ensures _ _
    (here (operator_is c.args.o) c.loop-m.invariant _ _ _ c.in-Named.is).stands)
    c.in_err-h-in-Named.was)) ts e p)

pub has_key-requires : goal.has_key-requires
has_key-requires c =
    row_lying (operator_is c.args.o) c.loop-m.invariant _ _ _ c.in-Named.is
    (ends_past held_row _ _ _ _ _ (c.hold_row.ensures _ _
    (here (operator_is c.args.o) c.loop-m.invariant _ _ _ c.in-Named.is).stands)
    c.in_ok-h-in-Named.was).0

pub shape_of-run-then-has_key : goal.shape_of-run-then-has_key
shape_of-run-then-has_key c =
    apart_size (operator_is c.args.o) c.loop-m.invariant _ _ _ c.in-Named.is
    (ends_past held_row _ _ _ _ _ (c.hold_row.ensures _ _
    (here (operator_is c.args.o) c.loop-m.invariant _ _ _ c.in-Named.is).stands)
    c.in_ok-h-in-Named.was).0

pub returns-then-has_key : goal.returns-then-has_key
returns-then-has_key c =
    apart_twice (operator_is c.args.o) c.loop-m.invariant _ _ _ c.in-Named.is
    (ends_past held_row _ _ _ _ _ (c.hold_row.ensures _ _
    (here (operator_is c.args.o) c.loop-m.invariant _ _ _ c.in-Named.is).stands)
    c.in_ok-h-in-Named.was).0 (sym (c.has_key.ensures _ _ c.loop-m.invariant.count
    (rows_lie (operator_is c.args.o) c.loop-m.invariant _ _ _ c.in-Named.is
    (ends_past held_row _ _ _ _ _ (c.hold_row.ensures _ _
    (here (operator_is c.args.o) c.loop-m.invariant _ _ _ c.in-Named.is).stands)
    c.in_ok-h-in-Named.was).0) (row_lies (operator_is c.args.o) c.loop-m.invariant _ _ _ c.in-Named.is
    (ends_past held_row _ _ _ _ _ (c.hold_row.ensures _ _
    (here (operator_is c.args.o) c.loop-m.invariant _ _ _ c.in-Named.is).stands)
    c.in_ok-h-in-Named.was).0)) ∙ c.if-has_key.true)

pub overflow_add-count : goal.overflow_add-count
overflow_add-count c =
    let few = apart_few (operator_is c.args.o) c.loop-m.invariant _ _ _ c.in-Named.is
    (ends_past held_row _ _ _ _ _ (c.hold_row.ensures _ _
    (here (operator_is c.args.o) c.loop-m.invariant _ _ _ c.in-Named.is).stands)
    c.in_ok-h-in-Named.was).0 in
    search rules

pub next_member-m-requires : goal.next_member-m-requires
next_member-m-requires c =
    here_continuing (operator_is c.args.o) c.loop-m.invariant _ _ _ c.in-Named.is
    (ends_past held_row _ _ _ _ _ (c.hold_row.ensures _ _
    (here (operator_is c.args.o) c.loop-m.invariant _ _ _ c.in-Named.is).stands)
    c.in_ok-h-in-Named.was).1

pub loop-m-smaller : goal.loop-m-smaller
loop-m-smaller c =
    here_less (operator_is c.args.o) c.loop-m.invariant _ _ _ c.in-Named.is _ _
    (ends_past held_row _ _ _ _ _ (c.hold_row.ensures _ _
    (here (operator_is c.args.o) c.loop-m.invariant _ _ _ c.in-Named.is).stands)
    c.in_ok-h-in-Named.was).1 c.next_member-m.ensures

pub loop-m-preserved : goal.loop-m-preserved
loop-m-preserved c =
    apart_more (operator_is c.args.o) c.loop-m.invariant _ _ _ c.in-Named.is
    (ends_past held_row _ _ _ _ _ (c.hold_row.ensures _ _
    (here (operator_is c.args.o) c.loop-m.invariant _ _ _ c.in-Named.is).stands)
    c.in_ok-h-in-Named.was).0 (sym (c.has_key.ensures _ _ c.loop-m.invariant.count
    (rows_lie (operator_is c.args.o) c.loop-m.invariant _ _ _ c.in-Named.is
    (ends_past held_row _ _ _ _ _ (c.hold_row.ensures _ _
    (here (operator_is c.args.o) c.loop-m.invariant _ _ _ c.in-Named.is).stands)
    c.in_ok-h-in-Named.was).0) (row_lies (operator_is c.args.o) c.loop-m.invariant _ _ _ c.in-Named.is
    (ends_past held_row _ _ _ _ _ (c.hold_row.ensures _ _
    (here (operator_is c.args.o) c.loop-m.invariant _ _ _ c.in-Named.is).stands)
    c.in_ok-h-in-Named.was).0)) ∙ c.if-has_key.false) _ _
    (ends_past held_row _ _ _ _ _ (c.hold_row.ensures _ _
    (here (operator_is c.args.o) c.loop-m.invariant _ _ _ c.in-Named.is).stands)
    c.in_ok-h-in-Named.was).1 c.next_member-m.ensures

pub shape_of-run-in-Past : goal.shape_of-run-in-Past
shape_of-run-in-Past c = c.loop-m.invariant.going.sofar.extends.size

pub returns-in-Past : goal.returns-in-Past
returns-in-Past c =
    let o = operator_is c.args.o in
    λ ms e p. (
      apart_end o c.loop-m.invariant _ c.in-Past.is ms e p,
      apart_past o c.loop-m.invariant _ c.in-Past.is ms e p,
    )
