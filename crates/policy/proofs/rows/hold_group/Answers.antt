-- An object's rows, of which there has to be one.
use mathlib.Core.Path.{refl}
use native.Mathlib.Omega.{arith}
use Rattle.held.specs.Held.{held_row}
use Rattle.parts.specs.Spoken.{operator_is}
use Rattle.syntax.specs.PolicyLayout.{rows_of}
use Rattle.parts.proofs.Laws.Formed.{lists_several, lists_wrong}
use Rattle.parts.proofs.Laws.Several.{is_object_lem, object_holdable, object_stands}
use Rattle.policy.proofs.Laws.Groups.{rows_inside, object_left, object_none, object_some}
use Rattle.parts.proofs.Laws.Kinds.{object_told}
use Rattle.parts.proofs.Laws.Formed.{none_lists}
use Rattle.policy.proofs.rows.hold_group.Goals as goal

pub kind_at-requires : goal.kind_at-requires
kind_at-requires c = record {
  what = c.requires.what;
  stop = c.requires.stop;
  is =
      c.requires.is;
}

pub returns-then-ne : goal.returns-then-ne
returns-then-ne c = λ t e p. record {
  size = refl;
  said = (rows_inside (operator_is
      c.args.o)).other t ((object_told c.kind_at.ensures c.ne.ensures c.if-ne.true) t e p);
}

pub hold_rows-requires : goal.hold_rows-requires
hold_rows-requires c = object_holdable _ (omega arith) c.requires
    ((object_told c.kind_at.ensures c.ne.ensures c.if-ne.false) _ _
    c.requires.is)

pub shape_of-run-in_err-rows : goal.shape_of-run-in_err-rows
shape_of-run-in_err-rows c =
    (lists_wrong held_row c.args.run.now _ _ _ _
    (c.hold_rows.ensures _ _ (object_stands c.requires.is
    ((object_told c.kind_at.ensures c.ne.ensures c.if-ne.false) _ _ c.requires.is)))
    c.in_err-rows.was).size

pub returns-in_err-rows : goal.returns-in_err-rows
returns-in_err-rows c =
    λ t e p.
    none_lists held_row c.args.run.now _ c.args.at (rows_of (operator_is c.args.o) t) _ c.from_residual.ensures
    (object_left (rows_of (operator_is c.args.o)) _ (rows_inside (operator_is c.args.o))
    (is_object_lem t ((object_told c.kind_at.ensures c.ne.ensures c.if-ne.false) t e p)).is
    (lists_wrong held_row c.args.run.now _ _ _ _
    (c.hold_rows.ensures _ _ (object_stands p
    ((object_told c.kind_at.ensures c.ne.ensures c.if-ne.false) t e p))) c.in_err-rows.was))

pub shape_of-run-then-rows-eq0 : goal.shape_of-run-then-rows-eq0
shape_of-run-then-rows-eq0 c =
    (lists_several held_row c.args.run.now _ _ _ _
    (c.hold_rows.ensures _ _ (object_stands c.requires.is
    ((object_told c.kind_at.ensures c.ne.ensures c.if-ne.false) _ _ c.requires.is))) c.in_ok-rows.was).0.extends.size

pub returns-then-rows-eq0 : goal.returns-then-rows-eq0
returns-then-rows-eq0 c =
    λ t e p. object_none (rows_of (operator_is c.args.o)) _ (rows_inside (operator_is c.args.o))
    (is_object_lem t ((object_told c.kind_at.ensures c.ne.ensures c.if-ne.false) t e p)).is
    (lists_several held_row c.args.run.now _ _ _ _
    (c.hold_rows.ensures _ _ (object_stands p
    ((object_told c.kind_at.ensures c.ne.ensures c.if-ne.false) t e p))) c.in_ok-rows.was).0 c.if-rows-eq0.true

pub shape_of-run : goal.shape_of-run
shape_of-run c =
    (lists_several held_row c.args.run.now _ _ _ _
    (c.hold_rows.ensures _ _ (object_stands c.requires.is
    ((object_told c.kind_at.ensures c.ne.ensures c.if-ne.false) _ _ c.requires.is))) c.in_ok-rows.was).0.extends.size

pub returns : goal.returns
returns c =
    λ t e p. (
      object_some (rows_of (operator_is c.args.o)) _ (rows_inside (operator_is c.args.o))
          (is_object_lem t ((object_told c.kind_at.ensures c.ne.ensures c.if-ne.false) t e p)).is
          (lists_several held_row c.args.run.now _ _ _ _
          (c.hold_rows.ensures _ _ (object_stands p
          ((object_told c.kind_at.ensures c.ne.ensures c.if-ne.false) t e p))) c.in_ok-rows.was).0 c.if-rows-eq0.false,
      (lists_several held_row c.args.run.now _ _ _ _
          (c.hold_rows.ensures _ _ (object_stands p
          ((object_told c.kind_at.ensures c.ne.ensures c.if-ne.false) t e p))) c.in_ok-rows.was).1,
    )
