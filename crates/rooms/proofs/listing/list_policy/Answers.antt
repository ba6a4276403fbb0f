-- Each turn notes the entries of one statement behind those before it.
-- whichever policy lies there
use mathlib.Core.Path.{refl}
use mathlib.Core.List.{[]}
use Rattle.held.proofs.Laws.RunsStatement.{policy_inside}
use Rattle.decision.specs.Decision.{nothing}
use Rattle.rooms.specs.Rooms.{statement_slots, slots, none}
use Rattle.rooms.specs.Listing.{no_value, no_context}
use Rattle.rooms.proofs.Laws.ListingWalk.{lists_charged}
use Rattle.rooms.proofs.Laws.ListingStatement.{found_nothing, none_more}
use Rattle.rooms.proofs.Laws.ListingTurns.{statements_start, statement_room, statement_next}
use Rattle.rooms.proofs.Laws.ListingTurns.{statements_end}
use Rattle.rooms.proofs.Laws.ListingParts.{carried_none, asking_none}
use Rattle.rooms.proofs.listing.list_policy.Goals as goal

pub bounds-run-0 : goal.bounds-run-0
bounds-run-0 c =
    policy_inside c.requires.thing c.requires.lies

pub loop-i-init : goal.loop-i-init
loop-i-init c = λ x l. statements_start (λ y. none (slots y)) x _ _ _ l

pub list_parts-g-requires : goal.list_parts-g-requires
list_parts-g-requires c = (
  statement_room (λ y. none (slots y)) c.requires.thing (c.loop-i.invariant c.requires.thing c.requires.lies) c.loop-i-test.true
      c.requires.room,
  carried_none _,
  carried_none _,
  asking_none _,
)

pub loop-i-preserved : goal.loop-i-preserved
loop-i-preserved c =
    λ x l.
    statement_next (λ y. none (slots y)) x (c.loop-i.invariant x l) (λ s. none (statement_slots s)) none_more
    c.loop-i-test.true
    (λ s m. lists_charged (found_nothing s)
    (c.list_parts-g.ensures s nothing nothing [] m no_value no_value no_context))

pub shape_of-dir : goal.shape_of-dir
shape_of-dir c =
    (c.loop-i.invariant c.requires.thing c.requires.lies).lists.size

pub returns : goal.returns
unfolding slots
returns c = λ x l. statements_end (λ y. none (slots y)) x (c.loop-i.invariant x l) c.loop-i-test.false refl
