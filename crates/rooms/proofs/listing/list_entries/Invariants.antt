-- Each turn notes one entry behind those before it; whichever entries lie at the place are the ones noted.
use Rattle.candidates.specs.Places.{place_is}
use Rattle.rooms.proofs.Laws.ListingTurns.{EntriesWalks}
use Rattle.rooms.proofs.listing.list_entries.Given as goal

abbrev pub invariant-loop-i : goal.invariant-loop-i
invariant-loop-i l =
    EntriesWalks l.effect (place_is l.place) l.run l.at l.request l.value l.initial.dir l.o l.many l.i l.e l.dir l.next
