-- The text is held, its escapes are resolved where it lies, and the number of its symbols is written last.
use Prim.Native.Nat.{◌≤◌}
use native.Mathlib.Omega.{arith}
use Rattle.syntax.specs.Forms.{symbols_of}
use Rattle.syntax.specs.Members.{then, characters_of}
use Rattle.held.specs.Held.{held_text}
use Rattle.parts.proofs.Laws.Formed.{ends_past, ends_wrong, past_first, past_within, left_then}
use Rattle.parts.proofs.Laws.Converted.{symbols_size, symbols_none, symbols_few, symbols_some}
use borrow.Author.Rules.{rules}
use Rattle.parts.proofs.Laws.Formed.{none_ends}
use Rattle.parts.proofs.entries.hold_symbols.Goals as goal

pub returns-in_err-past : goal.returns-in_err-past
returns-in_err-past c =
    λ t e p. none_ends held_text c.args.run.now _ c.args.at (then (characters_of t) (symbols_of c.args.wild)) _ c.from_residual.ensures (left_then _
    (ends_wrong held_text c.args.run.now _
    c.args.at (characters_of t) _
    (c.hold_string.ensures t e p) c.in_err-past.was))

pub slice_bounds-symbols-count : goal.slice_bounds-symbols-count
slice_bounds-symbols-count c =
    past_first (omega (arith, c.requires.roomy.room))
    (ends_past held_text c.args.run.now _ c.args.at _ _
    (c.hold_string.ensures _ _ c.requires.is) c.in_ok-past.was).0

pub slice_bounds-symbols-start : goal.slice_bounds-symbols-start
slice_bounds-symbols-start c =
    past_first (omega (arith, c.requires.roomy.room))
    (ends_past held_text c.args.run.now _ c.args.at _ _
    (c.hold_string.ensures _ _ c.requires.is) c.in_ok-past.was).0

pub slice_bounds-symbols-end : goal.slice_bounds-symbols-end
slice_bounds-symbols-end c =
    past_within (omega (arith, c.requires.roomy.room))
    (ends_past held_text c.args.run.now _ c.args.at _ _
    (c.hold_string.ensures _ _ c.requires.is) c.in_ok-past.was).0

pub returns-in_err-n : goal.returns-in_err-n
returns-in_err-n c =
    λ t e p. none_ends held_text c.args.run.now _ c.args.at (then (characters_of t) (symbols_of c.args.wild)) _ c.from_residual-in_err-n.ensures (symbols_none (omega (arith, c.requires.roomy.room))
    (ends_past held_text c.args.run.now _ c.args.at (characters_of t) _
    (c.hold_string.ensures t e p) c.in_ok-past.was).0 c.args.wild _ _
    c.symbols.ensures c.in_err-n.was)

pub overflow_cast-run : goal.overflow_cast-run
overflow_cast-run c =
    let d = (ends_past held_text c.args.run.now _ c.args.at _ _
    (c.hold_string.ensures _ _ c.requires.is) c.in_ok-past.was).0 in
    let few = symbols_few (omega (arith, c.requires.roomy.room)) d c.args.wild _ _
    c.symbols.ensures _ c.in_ok-n.was in
    let k : c.in_ok-n.n ≤ 16384 = omega (
      arith,
      few,
      past_within (omega (arith, c.requires.roomy.room)) d,
      d.extends.place,
      d.extends.size,
      c.requires.roomy.bounded,
    ) in search rules

pub bounds-run-at : goal.bounds-run-at
bounds-run-at c =
    let d = (ends_past held_text c.args.run.now _ c.args.at _ _
    (c.hold_string.ensures _ _ c.requires.is) c.in_ok-past.was).0 in
    omega (
      arith,
      symbols_size (omega (arith, c.requires.roomy.room)) d c.args.wild _ _
          c.symbols.ensures,
      past_within (omega (arith, c.requires.roomy.room)) d,
      d.extends.place,
      d.extends.size,
    )

pub overflow_add-result : goal.overflow_add-result
overflow_add-result c =
    let d = (ends_past held_text c.args.run.now _ c.args.at _ _
    (c.hold_string.ensures _ _ c.requires.is) c.in_ok-past.was).0 in
    let few = symbols_few (omega (arith, c.requires.roomy.room)) d c.args.wild _ _
    c.symbols.ensures _ c.in_ok-n.was in
    let k : c.in_ok-n.n ≤ 16384 = omega (
      arith,
      few,
      past_within (omega (arith, c.requires.roomy.room)) d,
      d.extends.place,
      d.extends.size,
      c.requires.roomy.bounded,
    ) in search rules

pub returns : goal.returns
returns c =
    λ t e p. (
      symbols_some (omega (arith, c.requires.roomy.room))
          (ends_past held_text c.args.run.now _ c.args.at (characters_of t) _
          (c.hold_string.ensures t e p) c.in_ok-past.was).0 c.args.wild _ _
          c.symbols.ensures _ c.in_ok-n.was,
      (ends_past held_text c.args.run.now _ c.args.at (characters_of t) _
          (c.hold_string.ensures t e p) c.in_ok-past.was).1,
    )
