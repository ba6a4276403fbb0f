-- Each kind of list has its own form of entry.
use Rattle.held.specs.Held.{held_value}
use Rattle.parts.proofs.Laws.Holding.{ends_alike}
use Rattle.parts.proofs.Laws.Values.{ends_text, action_is, resource_is, value_is}
use Rattle.parts.proofs.entries.hold_entry.Goals as goal

pub returns-in-Action : goal.returns-in-Action
returns-in-Action c =
    λ t e p. ends_alike held_value c.args.run.now
    _ c.args.at e
    c.hold_action.result _ _
    (action_is t c.in-Action.is)
    (ends_text c.args.run.now _
    c.args.at e _
    c.hold_action.result (c.hold_action.ensures t e p))

pub returns-in-Resource : goal.returns-in-Resource
returns-in-Resource c =
    λ t e p. ends_alike held_value c.args.run.now
    _ c.args.at e
    c.hold_resource.result _ _ (resource_is t
    c.in-Resource.is)
    (ends_text c.args.run.now _
    c.args.at e _
    c.hold_resource.result (c.hold_resource.ensures t e p))

pub returns-in-Value : goal.returns-in-Value
returns-in-Value c =
    λ t e p. ends_alike held_value
    c.args.run.now _
    c.args.at e
    c.hold_value.result _ _ (value_is t
    c.in-Value.is)
    (c.hold_value.ensures t e p)
