-- The rows of all operators, of which there has to be one, behind their number.
use mathlib.Core.Path.{refl}
use Prim.Native.Nat.{◌≤◌}
use native.Mathlib.Omega.{arith}
use Rattle.held.specs.Held.{held_list, held_row}
use Rattle.syntax.specs.PolicyLayout.{operators_in, condition_of}
use Rattle.parts.proofs.Laws.Formed.{lists_several, lists_wrong}
use Rattle.parts.proofs.Laws.Several.{is_object_lem, object_holdable, object_stands, gathered_few}
use Rattle.parts.proofs.Laws.Several.{row_some, cost_two}
use Rattle.policy.proofs.Laws.Groups.{object_left, object_none, object_laid}
use Rattle.policy.proofs.Laws.Operators.{condition_inside}
use borrow.Author.Rules.{rules}
use Rattle.parts.proofs.Laws.Kinds.{object_told}
use Rattle.parts.proofs.Laws.Formed.{none_ends}
use Rattle.policy.proofs.rows.hold_condition.Goals as goal

pub kind_at-requires : goal.kind_at-requires
kind_at-requires c = record {
  what = c.requires.what;
  stop = c.requires.stop;
  is =
      c.requires.is;
}

pub returns-then-ne : goal.returns-then-ne
returns-then-ne c = λ t e p. record {
  size = refl;
  said = condition_inside.other t
      ((object_told c.kind_at.ensures c.ne.ensures c.if-ne.true) t e p);
}

pub hold_operators-requires : goal.hold_operators-requires
hold_operators-requires c = object_holdable _ (omega arith) c.requires
    ((object_told c.kind_at.ensures c.ne.ensures c.if-ne.false) _ _
    c.requires.is)

pub shape_of-run-in_err-past : goal.shape_of-run-in_err-past
shape_of-run-in_err-past c =
    (lists_wrong held_row c.args.run.now _ _ _ _
    (c.hold_operators.ensures _ _
    (object_stands c.requires.is ((object_told c.kind_at.ensures c.ne.ensures c.if-ne.false) _ _
    c.requires.is))) c.in_err-past.was).size

pub returns-in_err-past : goal.returns-in_err-past
returns-in_err-past c =
    λ t e p.
    none_ends (held_list held_row) c.args.run.now _ c.args.at (condition_of t) _ c.from_residual.ensures
    (object_left condition_of operators_in condition_inside
    (is_object_lem t ((object_told c.kind_at.ensures c.ne.ensures c.if-ne.false) t e p)).is
    (lists_wrong held_row c.args.run.now _ _ _ _
    (c.hold_operators.ensures _ _
    (object_stands p ((object_told c.kind_at.ensures c.ne.ensures c.if-ne.false) t e p))) c.in_err-past.was))

pub shape_of-run-then-count-eq0 : goal.shape_of-run-then-count-eq0
shape_of-run-then-count-eq0 c =
    (lists_several held_row c.args.run.now _ _ _ _
    (c.hold_operators.ensures _ _
    (object_stands c.requires.is ((object_told c.kind_at.ensures c.ne.ensures c.if-ne.false) _ _
    c.requires.is))) c.in_ok-past.was).0.extends.size

pub returns-then-count-eq0 : goal.returns-then-count-eq0
returns-then-count-eq0 c =
    λ t e p. object_none condition_of operators_in condition_inside
    (is_object_lem t ((object_told c.kind_at.ensures c.ne.ensures c.if-ne.false) t e p)).is
    (lists_several held_row c.args.run.now _ _ _ _
    (c.hold_operators.ensures _ _
    (object_stands p ((object_told c.kind_at.ensures c.ne.ensures c.if-ne.false) t e p))) c.in_ok-past.was).0 c.if-count-eq0.true

pub overflow_cast-run : goal.overflow_cast-run
overflow_cast-run c =
    let few = gathered_few row_some (omega (
      arith,
      c.requires.roomy.room,
      cost_two c.requires.what
          ((object_told c.kind_at.ensures c.ne.ensures c.if-ne.false) _ _ c.requires.is),
    ))
    (lists_several held_row c.args.run.now _ _ _ _
    (c.hold_operators.ensures _ _
    (object_stands c.requires.is ((object_told c.kind_at.ensures c.ne.ensures c.if-ne.false) _ _
    c.requires.is))) c.in_ok-past.was).0 in
    let k : c.in_ok-past.count ≤ 16384 = omega (arith, few, c.requires.roomy.bounded) in search rules

pub bounds-run-at : goal.bounds-run-at
bounds-run-at c =
    let g = (lists_several held_row c.args.run.now _ _ _ _
    (c.hold_operators.ensures _ _
    (object_stands c.requires.is ((object_told c.kind_at.ensures c.ne.ensures c.if-ne.false) _ _
    c.requires.is))) c.in_ok-past.was).0 in
    omega (
      arith,
      g.extends.size,
      c.requires.roomy.room,
      cost_two c.requires.what
          ((object_told c.kind_at.ensures c.ne.ensures c.if-ne.false) _ _ c.requires.is),
    )

pub shape_of-run : goal.shape_of-run
shape_of-run c =
    (object_laid condition_of operators_in condition_inside
    (is_object_lem _ ((object_told c.kind_at.ensures c.ne.ensures c.if-ne.false) _ _ c.requires.is)).is
    (omega (
      arith,
      c.requires.roomy.room,
      cost_two c.requires.what
          ((object_told c.kind_at.ensures c.ne.ensures c.if-ne.false) _ _ c.requires.is),
    )) c.if-count-eq0.false
    (lists_several held_row c.args.run.now _ _ _ _
    (c.hold_operators.ensures _ _
    (object_stands c.requires.is ((object_told c.kind_at.ensures c.ne.ensures c.if-ne.false) _ _
    c.requires.is))) c.in_ok-past.was).0).extends.size

pub returns : goal.returns
returns c =
    λ t e p. (
      object_laid condition_of operators_in condition_inside
          (is_object_lem t ((object_told c.kind_at.ensures c.ne.ensures c.if-ne.false) t e p)).is
          (omega (
            arith,
            c.requires.roomy.room,
            cost_two c.requires.what
                ((object_told c.kind_at.ensures c.ne.ensures c.if-ne.false) _ _ c.requires.is),
          )) c.if-count-eq0.false
          (lists_several held_row c.args.run.now _ _ _ _
          (c.hold_operators.ensures _ _
          (object_stands p ((object_told c.kind_at.ensures c.ne.ensures c.if-ne.false) t e p))) c.in_ok-past.was).0,
      (lists_several held_row c.args.run.now _ _ _ _
          (c.hold_operators.ensures _ _
          (object_stands p ((object_told c.kind_at.ensures c.ne.ensures c.if-ne.false) t e p))) c.in_ok-past.was).1,
    )
