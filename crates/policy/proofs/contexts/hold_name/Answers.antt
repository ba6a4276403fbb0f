-- The text is held, and then tested where it lies.
-- the text that lies in the run, and where it ends
use mathlib.Core.Path.{◌∙◌}
use Prim.Native.Nat.{◌≤◌}
use native.Mathlib.Omega.{arith}
use lib.ListN.{length}
use Rattle.syntax.specs.Members.{characters_of}
use Rattle.syntax.specs.RecordLayout.{is_key_name, key_name_of}
use Rattle.held.specs.Held.{held_text}
use Rattle.parts.proofs.Laws.Formed.{ends_past, ends_wrong, past_first, past_within, part_told, formed_no, formed_yes}
use Rattle.parts.proofs.Laws.Formed.{then_wrong}
use Rattle.parts.proofs.Laws.Requests.Sole.{key_name_said}
use Rattle.parts.proofs.Laws.Formed.{none_ends}
use Rattle.policy.proofs.contexts.hold_name.Goals as goal

pub returns-in_err-h : goal.returns-in_err-h
returns-in_err-h c =
    λ t e p.
    none_ends held_text c.args.run.now _ c.args.at (key_name_of t) _ c.from_residual.ensures
    (let w = ends_wrong held_text c.args.run.now c.hold_string.new.run c.args.at
    (characters_of t) e (c.hold_string.ensures t e p) c.in_err-h.was in
    record { size = w.size; said = key_name_said t ∙ then_wrong _ w.said })

pub slice_bounds-is_key_name-count : goal.slice_bounds-is_key_name-count
slice_bounds-is_key_name-count c = past_first ((let z : c.args.at ≤ length c.args.run.now = omega (arith, c.requires.roomy.room) in z)) ((ends_past held_text c.args.run.now c.hold_string.new.run c.args.at (characters_of _) _
    (c.hold_string.ensures _ _ c.requires.is) c.in_ok-h.was)).0

pub slice_bounds-is_key_name-start : goal.slice_bounds-is_key_name-start
slice_bounds-is_key_name-start c = past_first ((let z : c.args.at ≤ length c.args.run.now = omega (arith, c.requires.roomy.room) in z)) ((ends_past held_text c.args.run.now c.hold_string.new.run c.args.at (characters_of _) _
    (c.hold_string.ensures _ _ c.requires.is) c.in_ok-h.was)).0

pub slice_bounds-is_key_name-end : goal.slice_bounds-is_key_name-end
slice_bounds-is_key_name-end c = past_within ((let z : c.args.at ≤ length c.args.run.now = omega (arith, c.requires.roomy.room) in z)) ((ends_past held_text c.args.run.now c.hold_string.new.run c.args.at (characters_of _) _
    (c.hold_string.ensures _ _ c.requires.is) c.in_ok-h.was)).0

pub returns-then-not-is_key_name : goal.returns-then-not-is_key_name
returns-then-not-is_key_name c =
    λ t e p. let d = ((ends_past held_text c.args.run.now c.hold_string.new.run c.args.at (characters_of t) e
    (c.hold_string.ensures t e p) c.in_ok-h.was)).0 in
    let n = part_told ((let z : c.args.at ≤ length c.args.run.now = omega (arith, c.requires.roomy.room) in z)) d is_key_name c.is_key_name.ensures c.if-not-is_key_name.true in
    record { size = d.extends.size; said = key_name_said t ∙ formed_no is_key_name (λ cs. cs) d.said n }

pub returns : goal.returns
returns c =
    λ t e p. let d = (ends_past held_text c.args.run.now c.hold_string.new.run c.args.at (characters_of t) e
    (c.hold_string.ensures t e p) c.in_ok-h.was) in
    let n = part_told ((let z : c.args.at ≤ length c.args.run.now = omega (arith, c.requires.roomy.room) in z)) d.0 is_key_name c.is_key_name.ensures c.if-not-is_key_name.false in (
      record {
        thing = d.0.thing;
        said = key_name_said t ∙ formed_yes is_key_name (λ cs. cs) d.0.said n;
        extends = d.0.extends;
      },
      d.1,
    )
