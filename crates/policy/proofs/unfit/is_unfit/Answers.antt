-- Each arm is a way to be unfit, told by what its word holds or finds.
use mathlib.Core.Path.{refl}
use Rattle.syntax.specs.PolicyLayout.{sid_of, action_of, resource_of, condition_of}
use Rattle.held.specs.Held.{held_text, held_list, held_row}
use Rattle.parts.specs.Unfit.{sid, effect, action, resource, condition}
use Rattle.parts.proofs.Laws.Holding.{never}
use Rattle.policy.proofs.Laws.Unfit.{not_some, said_wrong, entries_wrong, effect_wrong, less_holdable}
use Rattle.policy.proofs.unfit.is_unfit.Goals as goal

pub hold_sid-requires : goal.hold_sid-requires
hold_sid-requires c = less_holdable c.requires

pub effect_at-requires : goal.effect_at-requires
effect_at-requires c =
    record { what = c.requires.what; stop = c.requires.stop; is = c.requires.is }

pub hold_entries-requires : goal.hold_entries-requires
hold_entries-requires c = c.requires

pub hold_entries-requires-in-4 : goal.hold_entries-requires-in-4
hold_entries-requires-in-4 c = c.requires

pub hold_condition-requires : goal.hold_condition-requires
hold_condition-requires c = less_holdable c.requires

pub returns-in-1 : goal.returns-in-1
returns-in-1 c = (
  c.hold_sid.auto.run,
  λ z t e p. sid c.in-1.is
      (said_wrong held_text c.args.run.now c.hold_sid.new.run 0 (sid_of t) e c.hold_sid.result (c.hold_sid.ensures t e p)
      (not_some c.is_none.ensures z)),
)

pub returns-in-2 : goal.returns-in-2
returns-in-2 c = (
  refl,
  λ z t e p. effect c.in-2.is
      (effect_wrong c.effect_at.result t (c.effect_at.ensures t e p)
      (not_some c.is_none-in-2.ensures z)),
)

pub returns-in-3 : goal.returns-in-3
returns-in-3 c = (
  c.hold_entries.auto.run,
  λ z t e p. action c.in-3.is
      (entries_wrong action_of c.args.run.now c.hold_entries.new.run 0 t e c.hold_entries.result (c.hold_entries.ensures t e p)
      (not_some c.is_none-in-3.ensures z)),
)

pub returns-in-4 : goal.returns-in-4
returns-in-4 c = (
  c.hold_entries-in-4.auto.run,
  λ z t e p. resource c.in-4.is
      (entries_wrong resource_of c.args.run.now c.hold_entries-in-4.new.run 0 t e c.hold_entries-in-4.result (c.hold_entries-in-4.ensures t e p)
      (not_some c.is_none-in-4.ensures z)),
)

pub returns-in-5 : goal.returns-in-5
returns-in-5 c = (
  c.hold_condition.auto.run,
  λ z t e p. condition c.in-5.is
      (said_wrong (held_list held_row) c.args.run.now c.hold_condition.new.run 0 (condition_of t) e c.hold_condition.result
      (c.hold_condition.ensures t e p) (not_some c.is_none-in-5.ensures z)),
)

pub returns-in_default : goal.returns-in_default
returns-in_default c = (refl, λ z t e p. never z)
