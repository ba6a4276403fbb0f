-- The text is held and tested where it lies.
use mathlib.Core.Path.{◌∙◌}
use mathlib.Core.Bool.{true}
use native.Mathlib.Omega.{arith}
use Rattle.syntax.specs.Forms.{is_resource, symbols_of}
use Rattle.syntax.specs.Members.{then, characters_of}
use Rattle.syntax.specs.PolicyLayout.{resource_of}
use Rattle.held.specs.Held.{held_text}
use Rattle.parts.proofs.Laws.Formed.{ends_past, ends_wrong, past_first, past_within, part_told, formed_no}
use Rattle.parts.proofs.Laws.Formed.{formed_yes, resource_formed, resource_left}
use Rattle.parts.proofs.Laws.Formed.{none_ends}
use Rattle.parts.proofs.entries.hold_resource.Goals as goal

pub returns-in_err-h : goal.returns-in_err-h
unfolding resource_of
returns-in_err-h c =
    λ t e p. none_ends held_text c.args.run.now _ c.args.at (resource_of t) _ c.from_residual.ensures (resource_left (characters_of t) (ends_wrong held_text
    c.args.run.now _
    c.args.at
    (then (characters_of t) (symbols_of true)) _ (c.hold_symbols.ensures t e p)
    c.in_err-h.was))

pub slice_bounds-is_resource-count : goal.slice_bounds-is_resource-count
slice_bounds-is_resource-count c =
    past_first (omega (arith, c.requires.roomy.room))
    (ends_past held_text c.args.run.now _ c.args.at _ _
    (c.hold_symbols.ensures _ _ c.requires.is) c.in_ok-h.was).0

pub slice_bounds-is_resource-start : goal.slice_bounds-is_resource-start
slice_bounds-is_resource-start c =
    past_first (omega (arith, c.requires.roomy.room))
    (ends_past held_text c.args.run.now _ c.args.at _ _
    (c.hold_symbols.ensures _ _ c.requires.is) c.in_ok-h.was).0

pub slice_bounds-is_resource-end : goal.slice_bounds-is_resource-end
slice_bounds-is_resource-end c =
    past_within (omega (arith, c.requires.roomy.room))
    (ends_past held_text c.args.run.now _ c.args.at _ _
    (c.hold_symbols.ensures _ _ c.requires.is) c.in_ok-h.was).0

pub returns-then-not-is_resource : goal.returns-then-not-is_resource
unfolding resource_of
returns-then-not-is_resource c =
    λ t e p.
    let d = (ends_past held_text c.args.run.now _ c.args.at (then (characters_of t) (symbols_of true)) _
    (c.hold_symbols.ensures t e p) c.in_ok-h.was).0 in
    let n = part_told (omega (arith, c.requires.roomy.room)) d is_resource c.is_resource.ensures
    c.if-not-is_resource.true in
    record {
      size = d.extends.size;
      said = resource_formed (characters_of t) ∙ formed_no is_resource (λ cs. cs)
          d.said n;
    }

pub returns : goal.returns
unfolding resource_of
returns c =
    λ t e p.
    let d = (ends_past held_text c.args.run.now _ c.args.at (then (characters_of t) (symbols_of true)) _
    (c.hold_symbols.ensures t e p) c.in_ok-h.was).0 in
    let n = part_told (omega (arith, c.requires.roomy.room)) d is_resource c.is_resource.ensures
    c.if-not-is_resource.false in (
      record {
        thing = d.thing;
        said = resource_formed (characters_of t) ∙ formed_yes is_resource (λ cs. cs) d.said n;
        extends = d.extends;
      },
      (ends_past held_text c.args.run.now _ c.args.at (then (characters_of t) (symbols_of true)) _
          (c.hold_symbols.ensures t e p) c.in_ok-h.was).1,
    )
