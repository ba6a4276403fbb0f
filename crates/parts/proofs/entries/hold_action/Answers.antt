-- The text is held, tested where it lies, and its wildcards are told apart.
use mathlib.Core.List.{map}
use lib.ListN.{length-map}
use native.Mathlib.Omega.{arith}
use Rattle.syntax.specs.Forms.{is_action, wildcard}
use Rattle.syntax.specs.Members.{characters_of}
use Rattle.syntax.specs.PolicyLayout.{action_of}
use Rattle.held.specs.Held.{held_text}
use Rattle.parts.proofs.Laws.Formed.{ends_past, ends_wrong, past_first, past_within, part_told, formed_no}
use Rattle.parts.proofs.Laws.Formed.{formed_yes, left_then, relaid_by}
use Rattle.parts.proofs.Laws.Formed.{none_ends}
use Rattle.parts.proofs.entries.hold_action.Goals as goal

pub returns-in_err-h : goal.returns-in_err-h
unfolding action_of
returns-in_err-h c =
    λ t e p. none_ends held_text c.args.run.now _ c.args.at (action_of t) _ c.from_residual.ensures (left_then _
    (ends_wrong held_text c.args.run.now _
    c.args.at (characters_of t) _
    (c.hold_string.ensures t e p) c.in_err-h.was))

pub slice_bounds-is_action-count : goal.slice_bounds-is_action-count
slice_bounds-is_action-count c =
    past_first (omega (arith, c.requires.roomy.room))
    (ends_past held_text c.args.run.now _ c.args.at _ _
    (c.hold_string.ensures _ _ c.requires.is) c.in_ok-h.was).0

pub slice_bounds-is_action-start : goal.slice_bounds-is_action-start
slice_bounds-is_action-start c =
    past_first (omega (arith, c.requires.roomy.room))
    (ends_past held_text c.args.run.now _ c.args.at _ _
    (c.hold_string.ensures _ _ c.requires.is) c.in_ok-h.was).0

pub slice_bounds-is_action-end : goal.slice_bounds-is_action-end
slice_bounds-is_action-end c =
    past_within (omega (arith, c.requires.roomy.room))
    (ends_past held_text c.args.run.now _ c.args.at _ _
    (c.hold_string.ensures _ _ c.requires.is) c.in_ok-h.was).0

pub returns-then-not-is_action : goal.returns-then-not-is_action
unfolding action_of
returns-then-not-is_action c =
    λ t e p.
    let d = (ends_past held_text c.args.run.now _ c.args.at (characters_of t) _
    (c.hold_string.ensures t e p) c.in_ok-h.was).0 in
    let n = part_told (omega (arith, c.requires.roomy.room)) d is_action c.is_action.ensures
    c.if-not-is_action.true in
    record { size = d.extends.size; said = formed_no is_action (map wildcard) d.said n }

pub slice_bounds-wildcards-count : goal.slice_bounds-wildcards-count
slice_bounds-wildcards-count c =
    past_first (omega (arith, c.requires.roomy.room))
    (ends_past held_text c.args.run.now _ c.args.at _ _
    (c.hold_string.ensures _ _ c.requires.is) c.in_ok-h.was).0

pub slice_bounds-wildcards-start : goal.slice_bounds-wildcards-start
slice_bounds-wildcards-start c =
    past_first (omega (arith, c.requires.roomy.room))
    (ends_past held_text c.args.run.now _ c.args.at _ _
    (c.hold_string.ensures _ _ c.requires.is) c.in_ok-h.was).0

pub slice_bounds-wildcards-end : goal.slice_bounds-wildcards-end
slice_bounds-wildcards-end c =
    past_within (omega (arith, c.requires.roomy.room))
    (ends_past held_text c.args.run.now _ c.args.at _ _
    (c.hold_string.ensures _ _ c.requires.is) c.in_ok-h.was).0

pub returns : goal.returns
unfolding action_of
returns c =
    λ t e p.
    let d = (ends_past held_text c.args.run.now _ c.args.at (characters_of t) _
    (c.hold_string.ensures t e p) c.in_ok-h.was).0 in
    let n = part_told (omega (arith, c.requires.roomy.room)) d is_action c.is_action.ensures
    c.if-not-is_action.false in (
      record {
        thing = map wildcard d.thing;
        said = formed_yes is_action (map wildcard) d.said n;
        extends =
            relaid_by (omega (arith, c.requires.roomy.room)) d (map wildcard) _ c.wildcards.ensures
            (length-map d.thing wildcard);
      },
      (ends_past held_text c.args.run.now _ c.args.at (characters_of t) _
          (c.hold_string.ensures t e p) c.in_ok-h.was).1,
    )
