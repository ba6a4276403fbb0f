-- A request that is allowed is charged by the list of the entries; another changes nothing.
use mathlib.Core.Path.{refl, sym, ◌∙◌}
use Rattle.rooms.specs.Rooms.{slots, allowed_charges}
use Rattle.refine.proofs.Laws.Charged.{charges_right}
use Rattle.refine.proofs.Laws.Held.{listable, listed, listed_few, listed_taken, feedable, fed_allowed, fed_denied, fed_implicit}
use Rattle.refine.proofs.operations.feed_request.Goals as goal

pub decide_policy-j-requires : goal.decide_policy-j-requires
decide_policy-j-requires c = (
  listable c.requires.0.held_sound refl,
  record { thing = c.requires.1.request; lies = c.requires.1.lies },
)

pub slice_bounds-notes-end : goal.slice_bounds-notes-end
slice_bounds-notes-end c =
    let judged = c.decide_policy-j.ensures c.requires.0.held_sound.policy c.requires.1.request c.requires.0.held_sound.lies c.requires.1.lies in
    listed_few (judged.lists _ c.in-Allowed.is) refl c.requires.0.held_sound.sound

pub slice_bounds-feed_room-end : goal.slice_bounds-feed_room-end
slice_bounds-feed_room-end c =
    let judged = c.decide_policy-j.ensures c.requires.0.held_sound.policy c.requires.1.request c.requires.0.held_sound.lies c.requires.1.lies in
    listed_taken (judged.lists _ c.in-Allowed.is) refl c.requires.0.held_sound.sound

pub feed_room-requires : goal.feed_room-requires
feed_room-requires c =
    let judged = c.decide_policy-j.ensures c.requires.0.held_sound.policy c.requires.1.request c.requires.0.held_sound.lies c.requires.1.lies in
    feedable _ (judged.lists _ c.in-Allowed.is) c.requires.0.held_sound.sound c.requires.0.size
    (charges_right c.requires.1.request c.requires.1.short c.requires.0.held_sound.policy) c.requires.0.content

pub returns-in-Allowed : goal.returns-in-Allowed
returns-in-Allowed c =
    λ p q l m s h f.
    let judged = c.decide_policy-j.ensures p q l m in (
      sym c.in-Allowed.is ∙ judged.decision,
      fed_allowed p q _ (sym judged.decision ∙ c.in-Allowed.is)
          (c.feed_room.ensures (slots p) (allowed_charges p q)
          (listed (judged.lists _ c.in-Allowed.is)) (charges_right q h p) f),
    )

pub returns-in-Denied : goal.returns-in-Denied
returns-in-Denied c =
    λ p q l m s h f.
    let judged = c.decide_policy-j.ensures p q l m in (
      sym c.in-Denied.is ∙ judged.decision,
      fed_denied p q _ (sym judged.decision ∙ c.in-Denied.is),
    )

pub returns-in-Implicit : goal.returns-in-Implicit
returns-in-Implicit c =
    λ p q l m s h f.
    let judged = c.decide_policy-j.ensures p q l m in (
      sym c.in-Implicit.is ∙ judged.decision,
      fed_implicit p q _ (sym judged.decision ∙ c.in-Implicit.is),
    )
