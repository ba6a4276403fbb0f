-- The parts are asked for the request where the statement holds, and else for nothing.
use mathlib.Core.List.{[]}
use Rattle.syntax.specs.Policy.{text}
use Rattle.held.proofs.Laws.Parts.{request_action, request_resource, text_value}
use Rattle.decision.specs.Decision.{nothing, found}
use Rattle.rooms.specs.Listing.{no_value, no_context}
use Rattle.rooms.proofs.Laws.ListingWalk.{lists_charged}
use Rattle.rooms.proofs.Laws.ListingStatement.{hits_not, hits_all}
use Rattle.rooms.proofs.Laws.ListingParts.{carried_none, asking_none, action_valued}
use Rattle.rooms.proofs.Laws.ListingParts.{resource_valued, contexts_asked, action_carried}
use Rattle.rooms.proofs.Laws.ListingParts.{resource_carried, contexts_asking}
use Rattle.rooms.proofs.listing.list_if.Goals as goal

pub list_parts-requires : goal.list_parts-requires
list_parts-requires c =
    (c.requires.0, carried_none _, carried_none _, asking_none _)

pub returns-then-not-holds : goal.returns-then-not-holds
returns-then-not-holds c =
    λ s q l m.
    lists_charged (hits_not s q c.if-not-holds.true)
    (c.list_parts.ensures s nothing nothing [] l no_value no_value no_context)

pub past_value-t-requires : goal.past_value-t-requires
past_value-t-requires c =
    text_value (request_action c.requires.1)

pub past_value-c-requires : goal.past_value-c-requires
past_value-c-requires c =
    text_value (request_resource c.requires.1 c.past_value-t.ensures)

pub list_parts-requires-2 : goal.list_parts-requires-2
list_parts-requires-2 c = (
  c.requires.0,
  action_carried c.requires.1,
  resource_carried c.requires.1 c.past_value-t.ensures,
  contexts_asking c.requires.1 c.past_value-t.ensures c.past_value-c.ensures,
)

pub returns : goal.returns
returns c =
    λ s q l m.
    lists_charged (hits_all s q c.if-not-holds.false)
    (c.list_parts-2.ensures s (found (text q.action)) (found (text q.resource))
    q.context l
    (action_valued q m) (resource_valued q m c.past_value-t.ensures)
    (contexts_asked q m c.past_value-t.ensures c.past_value-c.ensures))
