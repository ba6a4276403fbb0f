-- One of the rooms is refused; or they are joined.
use mathlib.Core.Path.{refl, sym, ◌∙◌}
use Rattle.rooms.specs.Rooms.{slots}
use Rattle.refine.specs.Sound.{no_content, no_other_content}
use Rattle.refine.proofs.Laws.Held.{listable, listed, listed_few, listed_taken, roomy, meetable, rooms_joined}
use Rattle.refine.proofs.operations.join_held.Goals as goal

pub list_policy-n-requires : goal.list_policy-n-requires
list_policy-n-requires c =
    listable c.requires.0 refl

pub slice_bounds-notes-end : goal.slice_bounds-notes-end
slice_bounds-notes-end c =
    listed_few (c.list_policy-n.ensures c.requires.0.policy c.requires.0.lies) refl c.requires.0.sound

pub slice_bounds-listed-end : goal.slice_bounds-listed-end
slice_bounds-listed-end c =
    listed_taken (c.list_policy-n.ensures c.requires.0.policy c.requires.0.lies) refl c.requires.0.sound

pub fits_room-requires : goal.fits_room-requires
fits_room-requires c =
    let lists = c.list_policy-n.ensures c.requires.0.policy c.requires.0.lies in
    roomy _ lists c.requires.0.sound c.requires.1

pub returns-then-not-fits_room : goal.returns-then-not-fits_room
returns-then-not-fits_room c =
    λ p l s. no_content (sym (c.fits_room.ensures (slots p) _ (listed (c.list_policy-n.ensures p l))) ∙ c.if-not-fits_room.true)

pub fits_room-requires-2 : goal.fits_room-requires-2
fits_room-requires-2 c =
    let lists = c.list_policy-n.ensures c.requires.0.policy c.requires.0.lies in
    roomy _ lists c.requires.0.sound c.requires.2

pub returns-then-not-fits_room-2 : goal.returns-then-not-fits_room-2
returns-then-not-fits_room-2 c =
    let left = c.if-not-fits_room.false in
    λ p l s.
    let t = listed (c.list_policy-n.ensures p l) in
    no_other_content (sym (c.fits_room.ensures (slots p) _ t) ∙ left) (sym (c.fits_room-2.ensures (slots p) _ t) ∙ c.if-not-fits_room-2.true)

pub join_room-requires : goal.join_room-requires
join_room-requires c =
    let lists = c.list_policy-n.ensures c.requires.0.policy c.requires.0.lies in
    let left = c.if-not-fits_room.false in
    let other-left = c.if-not-fits_room-2.false in
    meetable _ _ lists c.requires.0.sound c.requires.1 c.requires.2 (sym (c.fits_room.ensures (slots c.requires.0.policy) _ (listed lists)) ∙ left) (sym (c.fits_room-2.ensures
    (slots c.requires.0.policy) _ (listed lists)) ∙ other-left)

pub returns : goal.returns
returns c =
    let left = c.if-not-fits_room.false in
    let other-left = c.if-not-fits_room-2.false in
    λ p l s.
    let t = listed (c.list_policy-n.ensures p l) in
    let f = sym (c.fits_room.ensures (slots p) _ t) ∙ left in
    let g = sym (c.fits_room-2.ensures (slots p) _ t) ∙ other-left in
    rooms_joined p f g (c.join_room.ensures (slots p) _ t f g)
