-- Each turn tests one row; behind the last, all is zero.
use mathlib.Core.List.{List}
use Rattle.decision.specs.Decision.{Found}
use Rattle.rooms.specs.Rooms.{Slot}
use Rattle.rooms.specs.Listing.{Told}
use Rattle.rooms.proofs.Laws.WalkingRows.{Testing}
use Rattle.rooms.proofs.walking.fits_room.Given as goal

abbrev pub invariant-loop-note : goal.invariant-loop-note
invariant-loop-note l =
    (ss : List Slot) (fs : List Found) → Told l.run l.run l.notes ss fs
    → Testing l.run l.run l.notes l.room ss l.note-index l.a
