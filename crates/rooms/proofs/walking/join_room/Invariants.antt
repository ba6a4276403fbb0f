-- Each turn joins one row to the other room's.
use mathlib.Core.Path.{◌≡◌}
use mathlib.Core.Bool.{true}
use mathlib.Core.List.{List}
use Rattle.decision.specs.Decision.{Found}
use Rattle.rooms.specs.Rooms.{Slot, fits}
use Rattle.rooms.specs.Listing.{Told}
use Rattle.rooms.proofs.Laws.WalkingRows.{Meeting}
use Rattle.rooms.proofs.walking.join_room.Given as goal

abbrev pub invariant-loop-note : goal.invariant-loop-note
invariant-loop-note l =
    (ss : List Slot) (fs : List Found) → Told l.run l.run l.notes ss fs → fits ss l.initial.room ≡ true
    → fits ss l.other ≡ true → Meeting l.run l.run l.notes ss l.initial.room l.other l.room l.note-index l.a
