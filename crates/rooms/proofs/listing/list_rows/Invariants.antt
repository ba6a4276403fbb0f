-- Each turn notes the entries of one row behind those before it.
use Rattle.rooms.proofs.Laws.ListingTurns.{RowsWalks}
use Rattle.rooms.proofs.listing.list_rows.Given as goal

abbrev pub invariant-loop-i : goal.invariant-loop-i
invariant-loop-i l =
    RowsWalks l.effect l.run l.at l.request l.contexts l.initial.dir l.o l.n l.i l.p l.dir l.next
