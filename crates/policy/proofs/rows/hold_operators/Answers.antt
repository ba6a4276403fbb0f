-- Each turn holds the rows of one operator behind those before it; one seen before, or a wrong one, ends the walk.
use mathlib.Core.Path.{refl, sym, ap, ◌∙◌}
use mathlib.Core.Bool.{false}
use Prim.Native.Nat.{ℕ}
use native.Mathlib.Omega.{arith}
use lib.ListN.{get_or}
use Rattle.syntax.specs.PolicyLayout.{operators_in}
use Rattle.held.specs.Held.{held_row}
use Rattle.parts.specs.Spoken.{operator_is}
use Rattle.parts.proofs.Laws.Formed.{lists_several, lists_wrong}
use Rattle.straight.proofs.Laws.Seen.{number_small}
use Rattle.policy.proofs.Laws.Operators.{operators_start, operators_end, operators_past, group_unknown, known}
use Rattle.policy.proofs.Laws.Operators.{group_left, here, here_holdable, here_continuing}
use Rattle.policy.proofs.Laws.Operators.{here_less, operators_wrong, operators_twice}
use Rattle.policy.proofs.Laws.Operators.{operators_few, operators_more}
use borrow.Author.Rules.{rules}
use Rattle.parts.proofs.Laws.Formed.{none_lists}
use Rattle.policy.proofs.rows.hold_operators.Goals as goal

pub first_member-m-requires : goal.first_member-m-requires
first_member-m-requires c = record {
  what = c.requires.what;
  stop = c.requires.stop;
  is =
      c.requires.is;
}

pub loop-m-init : goal.loop-m-init
loop-m-init c = operators_start c.requires _ (c.first_member-m.ensures _ _
    c.requires.is)

pub slice_bounds-operator_named-count : goal.slice_bounds-operator_named-count
slice_bounds-operator_named-count c = omega (
  arith,
  (here c.loop-m.invariant _ _ _
      c.in-Named.is).order,
)

pub slice_bounds-operator_named-start : goal.slice_bounds-operator_named-start
slice_bounds-operator_named-start c = omega (
  arith,
  (here c.loop-m.invariant _ _ _
      c.in-Named.is).order,
)

pub slice_bounds-operator_named-end : goal.slice_bounds-operator_named-end
slice_bounds-operator_named-end c = omega (
  arith,
  (here c.loop-m.invariant _ _ _
      c.in-Named.is).inside,
)

pub shape_of-run-in_err-o-in-Named : goal.shape_of-run-in_err-o-in-Named
shape_of-run-in_err-o-in-Named c = c.loop-m.invariant.going.sofar.extends.size

pub returns-in_err-o-in-Named : goal.returns-in_err-o-in-Named
returns-in_err-o-in-Named c = λ ts e p. none_lists held_row c.args.run.now _ c.args.at (operators_in ts) _ c.from_residual.ensures
    ((operators_wrong c.loop-m.invariant _ _ _
    c.in-Named.is (record {
      size = refl;
      said = group_unknown _ _
          c.operator_named.ensures c.in_err-o-in-Named.was;
    })) ts e p)

pub overflow_cast-k : goal.overflow_cast-k
overflow_cast-k c = let small = (number_small (operator_is c.in_ok-o-in-Named.o)) in search rules

pub bounds-seen-k : goal.bounds-seen-k
bounds-seen-k c = omega (
  arith,
  (number_small (operator_is c.in_ok-o-in-Named.o)),
  c.number-k.ensures,
  c.loop-m.invariant.seen.size,
)

pub shape_of-run-then-seen-k : goal.shape_of-run-then-seen-k
shape_of-run-then-seen-k c =
    c.loop-m.invariant.going.sofar.extends.size

pub returns-then-seen-k : goal.returns-then-seen-k
returns-then-seen-k c =
    operators_twice c.loop-m.invariant _ _ _ c.in-Named.is (operator_is c.in_ok-o-in-Named.o)
    (known _ (here c.loop-m.invariant _ _ _ c.in-Named.is).head
    c.operator_named.ensures c.in_ok-o-in-Named.was)
    (ap (λ (j : ℕ). get_or c.loop-m.seen j false) (sym c.number-k.ensures) ∙ c.if-seen-k.true)

pub bounds-seen-k-in-Named : goal.bounds-seen-k-in-Named
bounds-seen-k-in-Named c = omega (
  arith,
  (number_small (operator_is c.in_ok-o-in-Named.o)),
  c.number-k.ensures,
  c.loop-m.invariant.seen.size,
)

pub hold_group-requires : goal.hold_group-requires
hold_group-requires c = here_holdable
    c.loop-m.invariant _ _ _
    c.in-Named.is

pub shape_of-run-in_err-rows-in-Named : goal.shape_of-run-in_err-rows-in-Named
shape_of-run-in_err-rows-in-Named c =
    (lists_wrong held_row _ _ _ _ _ (c.hold_group.ensures _ _
    (here c.loop-m.invariant _ _ _ c.in-Named.is).stands) c.in_err-rows-in-Named.was).size ∙
    c.loop-m.invariant.going.sofar.extends.size

pub returns-in_err-rows-in-Named : goal.returns-in_err-rows-in-Named
returns-in_err-rows-in-Named c =
    λ ts e p. none_lists held_row c.args.run.now _ c.args.at (operators_in ts) _ c.from_residual-in_err-rows-in-Named.ensures
    ((operators_wrong c.loop-m.invariant _ _ _ c.in-Named.is
    (group_left _ _ (known _ (here c.loop-m.invariant _ _ _ c.in-Named.is).head
    c.operator_named.ensures c.in_ok-o-in-Named.was)
    (lists_wrong held_row _ _ _ _ _ (c.hold_group.ensures _ _
    (here c.loop-m.invariant _ _ _ c.in-Named.is).stands) c.in_err-rows-in-Named.was))) ts e p)

pub overflow_add-count : goal.overflow_add-count
overflow_add-count c =
    let few = operators_few c.loop-m.invariant _ _ _ c.in-Named.is
    (known _ (here c.loop-m.invariant _ _ _ c.in-Named.is).head
    c.operator_named.ensures c.in_ok-o-in-Named.was)
    (lists_several held_row _ _ _ _ _ (c.hold_group.ensures _ _
    (here c.loop-m.invariant _ _ _ c.in-Named.is).stands) c.in_ok-rows-in-Named.was).0 in
    search rules

pub next_member-m-requires : goal.next_member-m-requires
next_member-m-requires c =
    here_continuing c.loop-m.invariant _ _ _ c.in-Named.is
    (lists_several held_row _ _ _ _ _ (c.hold_group.ensures _ _
    (here c.loop-m.invariant _ _ _ c.in-Named.is).stands) c.in_ok-rows-in-Named.was).1

pub loop-m-smaller : goal.loop-m-smaller
loop-m-smaller c =
    here_less c.loop-m.invariant _ _ _ c.in-Named.is _ _
    (lists_several held_row _ _ _ _ _ (c.hold_group.ensures _ _
    (here c.loop-m.invariant _ _ _ c.in-Named.is).stands) c.in_ok-rows-in-Named.was).1 c.next_member-m.ensures

pub loop-m-preserved : goal.loop-m-preserved
loop-m-preserved c =
    operators_more c.loop-m.invariant _ _ _ c.in-Named.is
    (known _ (here c.loop-m.invariant _ _ _ c.in-Named.is).head
    c.operator_named.ensures c.in_ok-o-in-Named.was)
    (lists_several held_row _ _ _ _ _ (c.hold_group.ensures _ _
    (here c.loop-m.invariant _ _ _ c.in-Named.is).stands) c.in_ok-rows-in-Named.was).0 _
    c.number-k.ensures c.if-seen-k.false _ _
    (lists_several held_row _ _ _ _ _ (c.hold_group.ensures _ _
    (here c.loop-m.invariant _ _ _ c.in-Named.is).stands) c.in_ok-rows-in-Named.was).1 c.next_member-m.ensures

pub shape_of-run-in-Past : goal.shape_of-run-in-Past
shape_of-run-in-Past c = c.loop-m.invariant.going.sofar.extends.size

pub returns-in-Past : goal.returns-in-Past
returns-in-Past c =
    λ ms e p. (operators_end c.loop-m.invariant _ c.in-Past.is ms e p, operators_past c.loop-m.invariant _ c.in-Past.is ms e p)
