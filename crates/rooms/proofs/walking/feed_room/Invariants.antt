-- Each turn charges one row; the others stay.
use mathlib.Core.Path.{◌≡◌}
use mathlib.Core.Bool.{true}
use mathlib.Core.List.{List}
use Rattle.decision.specs.Decision.{Found}
use Rattle.rooms.specs.Rooms.{Slot, fits}
use Rattle.rooms.specs.Listing.{Told}
use Rattle.rooms.specs.Walking.{Right}
use Rattle.rooms.proofs.Laws.WalkingRows.{Feeding}
use Rattle.rooms.proofs.walking.feed_room.Given as goal

abbrev pub invariant-loop-note : goal.invariant-loop-note
invariant-loop-note l =
    (ss : List Slot) (fs : List Found) → Told l.run l.request l.notes ss fs → Right ss fs
    → fits ss l.initial.room ≡ true
    → Feeding l.run l.request l.notes ss fs l.initial.room l.room l.note-index l.a
