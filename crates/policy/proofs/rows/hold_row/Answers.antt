-- The key and the values are held one behind the other, the operator's number is written last.
use mathlib.Core.Path.{◌∙◌}
use native.Mathlib.Omega.{arith}
use Rattle.held.specs.Held.{held_text, held_list, held_value, held_row}
use Rattle.chars.specs.Base.{part}
use Rattle.syntax.specs.PolicyLayout.{row_of}
use Rattle.parts.specs.Spoken.{operator_is}
use Rattle.parts.proofs.Laws.Formed.{holds_past, holds_wrong, ends_past, ends_wrong}
use Rattle.policy.proofs.Laws.Rows.{row_left, key_place, row_entries_left, row_laid}
use Rattle.parts.proofs.Laws.Formed.{none_ends}
use Rattle.policy.proofs.rows.hold_row.Goals as goal

pub slice_bounds-hold_key-count : goal.slice_bounds-hold_key-count
slice_bounds-hold_key-count c = omega (arith, c.requires.order)

pub slice_bounds-hold_key-start : goal.slice_bounds-hold_key-start
slice_bounds-hold_key-start c = omega (arith, c.requires.order)

pub slice_bounds-hold_key-end : goal.slice_bounds-hold_key-end
slice_bounds-hold_key-end c = omega (arith, c.requires.inside)

pub hold_key-requires : goal.hold_key-requires
hold_key-requires c = record {
  room = omega (arith, c.requires.roomy.room);
  bounded =
      c.requires.roomy.bounded;
}

pub shape_of-run-in_err-p : goal.shape_of-run-in_err-p
shape_of-run-in_err-p c = (holds_wrong held_text
    c.args.run.now _ _ _
    c.hold_key.ensures c.in_err-p.was).size

pub returns-in_err-p : goal.returns-in_err-p
returns-in_err-p c = λ t e p.
    none_ends held_row c.args.run.now _ c.args.at (row_of (operator_is c.args.o) (part c.args.s.now c.args.name c.args.end) t) _ c.from_residual.ensures
    (row_left
    (operator_is c.args.o) _ t
    (holds_wrong held_text
    c.args.run.now _ _ _
    c.hold_key.ensures c.in_err-p.was))

pub hold_entries-requires : goal.hold_entries-requires
hold_entries-requires c =
    let k = (holds_past held_text c.args.run.now _ _ _ c.hold_key.ensures c.in_ok-p.was)
    in
    record {
      what = c.requires.what;
      stop = c.requires.stop;
      is = c.requires.is;
      roomy = record {
        room = omega (
          arith,
          key_place (operator_is c.args.o) _ c.requires.what c.args.at k,
          k.extends.size,
          c.requires.roomy.room,
        );
        bounded = omega
            (arith, k.extends.size, c.requires.roomy.bounded);
      };
    }

pub shape_of-run-in_err-h : goal.shape_of-run-in_err-h
shape_of-run-in_err-h c =
    (ends_wrong (held_list held_value) _ _ _ _ _ (c.hold_entries.ensures _ _ c.requires.is)
    c.in_err-h.was).size ∙ (holds_past held_text c.args.run.now _ _ _
    c.hold_key.ensures c.in_ok-p.was).extends.size

pub returns-in_err-h : goal.returns-in_err-h
returns-in_err-h c =
    λ t e p.
    none_ends held_row c.args.run.now _ c.args.at (row_of (operator_is c.args.o) (part c.args.s.now c.args.name c.args.end) t) _ c.from_residual-in_err-h.ensures
    (row_entries_left (operator_is c.args.o) _ t c.args.at
    (holds_past held_text c.args.run.now _ _ _ c.hold_key.ensures c.in_ok-p.was)
    (ends_wrong (held_list held_value) _ _ _ _ _ (c.hold_entries.ensures t e p)
    c.in_err-h.was))

pub bounds-run-at : goal.bounds-run-at
bounds-run-at c =
    let k = (holds_past held_text c.args.run.now _ _ _ c.hold_key.ensures c.in_ok-p.was)
    in
    let d = (ends_past (held_list held_value) _ _ _ _ _ (c.hold_entries.ensures _ _ c.requires.is)
    c.in_ok-h.was).0 in
    omega (arith, k.extends.size, d.extends.size, c.requires.roomy.room)

pub shape_of-run : goal.shape_of-run
shape_of-run c =
    (row_laid (operator_is c.args.o) _ _ c.args.at
    (holds_past held_text c.args.run.now _ _ _ c.hold_key.ensures c.in_ok-p.was) _
    c.number.ensures (omega (arith, c.requires.roomy.room))
    (ends_past (held_list held_value) _ _ _ _ _ (c.hold_entries.ensures _ _ c.requires.is)
    c.in_ok-h.was).0).extends.size

pub returns : goal.returns
returns c =
    λ t e p. (
      row_laid (operator_is c.args.o) _ t c.args.at
          (holds_past held_text c.args.run.now _ _ _ c.hold_key.ensures c.in_ok-p.was) _
          c.number.ensures (omega (arith, c.requires.roomy.room))
          (ends_past (held_list held_value) _ _ _ _ _ (c.hold_entries.ensures t e p) c.in_ok-h.was).0,
      (ends_past (held_list held_value) _ _ _ _ _ (c.hold_entries.ensures t e p) c.in_ok-h.was).1,
    )
