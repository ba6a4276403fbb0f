-- The text is held and tested where it lies.
use native.Mathlib.Omega.{arith}
use Rattle.syntax.specs.Forms.{is_sid}
use Rattle.syntax.specs.Members.{characters_of}
use Rattle.syntax.specs.PolicyLayout.{sid_of}
use Rattle.held.specs.Held.{held_text}
use Rattle.parts.proofs.Laws.Formed.{ends_past, ends_wrong, past_first, past_within, part_told, formed_no}
use Rattle.parts.proofs.Laws.Formed.{formed_yes, left_then}
use Rattle.parts.proofs.Laws.Formed.{none_ends}
use Rattle.parts.proofs.entries.hold_sid.Goals as goal

pub returns-in_err-h : goal.returns-in_err-h
unfolding sid_of
returns-in_err-h c =
    λ t e p. none_ends held_text c.args.run.now _ c.args.at (sid_of t) _ c.from_residual.ensures (left_then _
    (ends_wrong held_text c.args.run.now _
    c.args.at (characters_of t) _
    (c.hold_string.ensures t e p) c.in_err-h.was))

pub slice_bounds-is_sid-count : goal.slice_bounds-is_sid-count
slice_bounds-is_sid-count c =
    past_first (omega (arith, c.requires.roomy.room))
    (ends_past held_text c.args.run.now _ c.args.at _ _
    (c.hold_string.ensures _ _ c.requires.is) c.in_ok-h.was).0

pub slice_bounds-is_sid-start : goal.slice_bounds-is_sid-start
slice_bounds-is_sid-start c =
    past_first (omega (arith, c.requires.roomy.room))
    (ends_past held_text c.args.run.now _ c.args.at _ _
    (c.hold_string.ensures _ _ c.requires.is) c.in_ok-h.was).0

pub slice_bounds-is_sid-end : goal.slice_bounds-is_sid-end
slice_bounds-is_sid-end c =
    past_within (omega (arith, c.requires.roomy.room))
    (ends_past held_text c.args.run.now _ c.args.at _ _
    (c.hold_string.ensures _ _ c.requires.is) c.in_ok-h.was).0

pub returns-then-not-is_sid : goal.returns-then-not-is_sid
unfolding sid_of
returns-then-not-is_sid c =
    λ t e p.
    let d = (ends_past held_text c.args.run.now _ c.args.at (characters_of t) _
    (c.hold_string.ensures t e p) c.in_ok-h.was).0 in
    let n = part_told (omega (arith, c.requires.roomy.room)) d is_sid c.is_sid.ensures
    c.if-not-is_sid.true in
    record { size = d.extends.size; said = formed_no is_sid (λ cs. cs) d.said n }

pub returns : goal.returns
unfolding sid_of
returns c =
    λ t e p.
    let d = (ends_past held_text c.args.run.now _ c.args.at (characters_of t) _
    (c.hold_string.ensures t e p) c.in_ok-h.was).0 in
    let n = part_told (omega (arith, c.requires.roomy.room)) d is_sid c.is_sid.ensures
    c.if-not-is_sid.false in (
      record { thing = d.thing; said = formed_yes is_sid (λ cs. cs) d.said n; extends = d.extends },
      (ends_past held_text c.args.run.now _ c.args.at (characters_of t) _
          (c.hold_string.ensures t e p) c.in_ok-h.was).1,
    )
