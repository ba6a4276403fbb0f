-- The text is held, and then tested where it lies.
use mathlib.Core.Path.{◌∙◌}
use native.Mathlib.Omega.{arith}
use Rattle.syntax.specs.RecordLayout.{only_one, action_name_of, is_action_name}
use Rattle.syntax.specs.Members.{required}
use Rattle.held.specs.Held.{held_text}
use Rattle.parts.proofs.Laws.Formed.{holds_past, past_first, past_within, part_told, formed_no, formed_yes}
use Rattle.parts.proofs.Laws.Formed.{then_wrong}
use Rattle.parts.proofs.Laws.Requests.Members.{refused}
use Rattle.parts.proofs.Laws.Requests.Sole.{the_one, action_name_said}
use Rattle.parts.proofs.Laws.Formed.{none_holds}
use Rattle.policy.proofs.requests.hold_action_name.Goals as goal

pub returns-in_err-past : goal.returns-in_err-past
returns-in_err-past c =
    λ x p.
    none_holds held_text c.args.run.now _ c.args.at (required (only_one action_name_of) x) c.from_residual.ensures
    (refused held_text _ _ c.args.at (the_one x) _ (c.hold_only.ensures x p)
    c.in_err-past.was
    (λ e. action_name_said x ∙ then_wrong _ e))

pub slice_bounds-is_action_name-count : goal.slice_bounds-is_action_name-count
slice_bounds-is_action_name-count c =
    past_first (omega (arith, c.requires.roomy.room)) (holds_past held_text c.args.run.now
    c.hold_only.new.run c.args.at
    (the_one c.requires.what) (c.hold_only.ensures c.requires.what c.requires.is)
    c.in_ok-past.was)

pub slice_bounds-is_action_name-start : goal.slice_bounds-is_action_name-start
slice_bounds-is_action_name-start c =
    past_first (omega (arith, c.requires.roomy.room)) (holds_past held_text c.args.run.now
    c.hold_only.new.run c.args.at
    (the_one c.requires.what) (c.hold_only.ensures c.requires.what c.requires.is)
    c.in_ok-past.was)

pub slice_bounds-is_action_name-end : goal.slice_bounds-is_action_name-end
slice_bounds-is_action_name-end c =
    past_within (omega (arith, c.requires.roomy.room)) (holds_past held_text c.args.run.now
    c.hold_only.new.run c.args.at
    (the_one c.requires.what) (c.hold_only.ensures c.requires.what c.requires.is)
    c.in_ok-past.was)

pub returns-then-not-is_action_name : goal.returns-then-not-is_action_name
returns-then-not-is_action_name c =
    λ x p. let d = holds_past held_text c.args.run.now c.hold_only.new.run
    c.args.at (the_one x) (c.hold_only.ensures x p) c.in_ok-past.was in
    let n = part_told (omega (arith, c.requires.roomy.room)) d is_action_name c.is_action_name.ensures
    c.if-not-is_action_name.true in
    record { size = d.extends.size; said = action_name_said x ∙ formed_no is_action_name (λ cs. cs) d.said n }

pub returns : goal.returns
returns c =
    λ x p. let d = holds_past held_text c.args.run.now c.hold_only.new.run
    c.args.at (the_one x) (c.hold_only.ensures x p) c.in_ok-past.was in
    let n = part_told (omega (arith, c.requires.roomy.room)) d is_action_name c.is_action_name.ensures
    c.if-not-is_action_name.false in
    record {
      thing = d.thing;
      said = action_name_said x ∙ formed_yes is_action_name (λ cs. cs)
          d.said n;
      extends = d.extends;
    }
