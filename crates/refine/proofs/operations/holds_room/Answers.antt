-- The list of the entries, and then the rows.
use mathlib.Core.Path.{refl}
use Rattle.rooms.specs.Rooms.{slots}
use Rattle.refine.proofs.Laws.Held.{listable, listed, listed_few, listed_taken, roomy}
use Rattle.refine.proofs.operations.holds_room.Goals as goal

pub list_policy-n-requires : goal.list_policy-n-requires
list_policy-n-requires c =
    listable c.requires.0 refl

pub slice_bounds-notes-end : goal.slice_bounds-notes-end
slice_bounds-notes-end c =
    listed_few (c.list_policy-n.ensures c.requires.0.policy c.requires.0.lies) refl c.requires.0.sound

pub slice_bounds-fits_room-end : goal.slice_bounds-fits_room-end
slice_bounds-fits_room-end c =
    listed_taken (c.list_policy-n.ensures c.requires.0.policy c.requires.0.lies) refl c.requires.0.sound

pub fits_room-requires : goal.fits_room-requires
fits_room-requires c =
    let lists = c.list_policy-n.ensures c.requires.0.policy c.requires.0.lies in
    roomy _ lists c.requires.0.sound c.requires.1

pub returns : goal.returns
returns c =
    λ p l s. c.fits_room.ensures (slots p) _ (listed (c.list_policy-n.ensures p l))
