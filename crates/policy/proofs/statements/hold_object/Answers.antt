-- Where a member is unknown, repeated or missing there is no statement; else its parts are held behind the place of the
-- effect's number, which is written last.
use native.Mathlib.Omega.{arith}
use Rattle.parts.specs.Spoken.{told_effect, effect_is}
use Rattle.policy.specs.Statements.{held_parts}
use Rattle.parts.proofs.Laws.Formed.{holds_past, holds_wrong}
use Rattle.policy.proofs.Laws.Statements.{slots_left, slots_end, effect_missing, action_missing}
use Rattle.policy.proofs.Laws.Statements.{resource_missing}
use Rattle.policy.proofs.Laws.Statements.{sid_placed, condition_placed, effect_there, action_there}
use Rattle.policy.proofs.Laws.Statements.{resource_there, effect_standing, effect_left, front_room}
use Rattle.policy.proofs.Laws.Statements.{parts_holdable, parts_left, statement_laid}
use Rattle.parts.proofs.Laws.Formed.{none_ends}
use mathlib.Core.Path.{sym, ap, ◌∙◌}
use Rattle.text.specs.Json.{object}
use Rattle.syntax.specs.PolicyLayout.{statement_of}
use Rattle.held.specs.Held.{held_statement}
use Rattle.policy.proofs.statements.hold_object.Goals as goal

pub slots-places-requires : goal.slots-places-requires
slots-places-requires c =
    record { what = c.requires.what; stop = c.requires.stop; is = c.requires.is }

pub returns-then-end-eq0 : goal.returns-then-end-eq0
returns-then-end-eq0 c = λ ms e p. slots_left ms (c.slots-places.ensures ms e p) c.if-end-eq0.true

pub returns-then-effect-eq0 : goal.returns-then-effect-eq0
returns-then-effect-eq0 c =
    λ ms e p. effect_missing ms (c.slots-places.ensures ms e p) c.if-end-eq0.false c.if-effect-eq0.true

pub returns-then-action-eq0 : goal.returns-then-action-eq0
returns-then-action-eq0 c =
    λ ms e p. action_missing ms (c.slots-places.ensures ms e p) c.if-end-eq0.false
    c.if-action-eq0.true

pub returns-then-resource-eq0 : goal.returns-then-resource-eq0
returns-then-resource-eq0 c =
    λ ms e p. resource_missing ms (c.slots-places.ensures ms e p)
    c.if-end-eq0.false c.if-resource-eq0.true

pub effect_at-requires : goal.effect_at-requires
effect_at-requires c =
    let w = c.slots-places.ensures _ _ c.requires.is in
    effect_standing _ w c.if-end-eq0.false c.if-effect-eq0.false c.if-action-eq0.false c.if-resource-eq0.false

pub returns-in_err-e : goal.returns-in_err-e
returns-in_err-e c =
    λ ms e p.
    none_ends held_statement c.args.run.now _ c.args.at (statement_of (object ms)) _ c.from_residual.ensures
    (let v = c.slots-places.ensures ms e p in
    let effect = effect_there ms v c.if-end-eq0.false c.if-effect-eq0.false c.if-action-eq0.false c.if-resource-eq0.false in
    effect_left ms v c.if-end-eq0.false c.if-effect-eq0.false c.if-action-eq0.false c.if-resource-eq0.false (told_effect c.effect_at.result) (c.effect_at.ensures _ _ effect.stands)
    (ap told_effect c.in_err-e.was))

pub hold_parts-requires : goal.hold_parts-requires
hold_parts-requires c =
    let w = c.slots-places.ensures _ _ c.requires.is in
    parts_holdable _ w c.if-end-eq0.false c.if-effect-eq0.false c.if-action-eq0.false c.if-resource-eq0.false c.args.at c.requires.roomy.room c.requires.roomy.bounded

pub returns-in_err-past : goal.returns-in_err-past
returns-in_err-past c =
    λ ms e p.
    none_ends held_statement c.args.run.now _ c.args.at (statement_of (object ms)) _ c.from_residual-in_err-past.ensures
    (let v = c.slots-places.ensures ms e p in
    let action = action_there ms v c.if-end-eq0.false c.if-effect-eq0.false c.if-action-eq0.false c.if-resource-eq0.false in
    let resource = resource_there ms v c.if-end-eq0.false c.if-effect-eq0.false c.if-action-eq0.false c.if-resource-eq0.false in
    let held = c.hold_parts.ensures _ _ _ _ _ _ (sid_placed ms v c.if-end-eq0.false) action.stands resource.stands
    (condition_placed ms v c.if-end-eq0.false) in
    parts_left ms v c.if-end-eq0.false c.if-effect-eq0.false c.if-action-eq0.false c.if-resource-eq0.false (holds_wrong held_parts c.args.run.now _ _ _ held c.in_err-past.was))

pub bounds-run-at : goal.bounds-run-at
bounds-run-at c =
    let w = c.slots-places.ensures _ _ c.requires.is in
    let ea = action_there _ w c.if-end-eq0.false c.if-effect-eq0.false c.if-action-eq0.false c.if-resource-eq0.false in
    let er = resource_there _ w c.if-end-eq0.false c.if-effect-eq0.false c.if-action-eq0.false c.if-resource-eq0.false in
    let low = front_room _ w c.if-end-eq0.false c.if-effect-eq0.false c.if-action-eq0.false c.if-resource-eq0.false c.requires.roomy.room in
    let h = c.hold_parts.ensures _ _ _ _ _ _ (sid_placed _ w c.if-end-eq0.false)
    ea.stands er.stands (condition_placed _ w c.if-end-eq0.false) in
    let d = holds_past held_parts c.args.run.now _ _ _ h c.in_ok-past.was in
    omega (arith, d.extends.size, low)

pub returns : goal.returns
returns c =
    λ ms e p.
    let w = c.slots-places.ensures _ _ c.requires.is in
    let low = front_room _ w c.if-end-eq0.false c.if-effect-eq0.false c.if-action-eq0.false c.if-resource-eq0.false c.requires.roomy.room in
    let v = c.slots-places.ensures ms e p in
    let effect = effect_there ms v c.if-end-eq0.false c.if-effect-eq0.false c.if-action-eq0.false c.if-resource-eq0.false in
    let action = action_there ms v c.if-end-eq0.false c.if-effect-eq0.false c.if-action-eq0.false c.if-resource-eq0.false in
    let resource = resource_there ms v c.if-end-eq0.false c.if-effect-eq0.false c.if-action-eq0.false c.if-resource-eq0.false in
    let held = c.hold_parts.ensures _ _ _ _ _ _ (sid_placed ms v c.if-end-eq0.false) action.stands resource.stands
    (condition_placed ms v c.if-end-eq0.false) in (
      statement_laid ms v c.if-end-eq0.false c.if-effect-eq0.false c.if-action-eq0.false c.if-resource-eq0.false (effect_is c.in_ok-e.e) (sym (ap told_effect c.in_ok-e.was) ∙ c.effect_at.ensures _ _ effect.stands)
          c.effect_number.ensures low
          (holds_past held_parts c.args.run.now _ _ _ held c.in_ok-past.was),
      slots_end ms v c.if-end-eq0.false,
    )
