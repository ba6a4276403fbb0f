-- What the scan passed is a string, and it was decoded behind its number.
-- the scan's answer, and where the function starts
use mathlib.Core.Path.{refl}
use native.Mathlib.Omega.{arith}
use Rattle.text.proofs.Laws.Places.{text_grows}
use Rattle.syntax.specs.Members.{characters_of}
use Rattle.held.specs.Held.{held_text}
use Rattle.straight.proofs.Laws.Taking.{none_takes}
use Rattle.parts.proofs.Laws.Formed.{holds_past, holds_wrong}
use Rattle.straight.proofs.Laws.Strings.{string_room, string_taken}
use Rattle.straight.proofs.strings.any_string.Goals as goal

pub returns-in_default : goal.returns-in_default
returns-in_default c = refl

pub overflow_sub-end : goal.overflow_sub-end
overflow_sub-end c = omega (arith, text_grows c.in-Ok.ensures)

pub returns-then-run-at : goal.returns-then-run-at
returns-then-run-at c = refl

pub overflow_sub-to : goal.overflow_sub-to
overflow_sub-to c = omega (arith, text_grows c.in-Ok.ensures)

pub slice_bounds-hold_raw-count : goal.slice_bounds-hold_raw-count
slice_bounds-hold_raw-count c = omega (arith, text_grows c.in-Ok.ensures)

pub slice_bounds-hold_raw-start : goal.slice_bounds-hold_raw-start
slice_bounds-hold_raw-start c = omega (arith, text_grows c.in-Ok.ensures)

pub slice_bounds-hold_raw-end : goal.slice_bounds-hold_raw-end
slice_bounds-hold_raw-end c = omega (arith, c.in-Ok.ensures.high)

pub hold_raw-requires : goal.hold_raw-requires
hold_raw-requires c =
    string_room c.args.v c.in-Ok.ensures c.requires.1 (omega (arith, c.if-run-at.false))

pub returns-in_err-past : goal.returns-in_err-past
returns-in_err-past c =
    none_takes held_text 0 c.args.s.now c.args.run.now _ c.args.v c.args.at characters_of c.from_residual.ensures
    (holds_wrong held_text _ _ c.args.at _ c.hold_raw.ensures c.in_err-past.was).size

pub returns : goal.returns
returns c =
    string_taken c.requires.0 c.in-Ok.ensures
    (holds_past held_text _ _ c.args.at _ c.hold_raw.ensures c.in_ok-past.was)
