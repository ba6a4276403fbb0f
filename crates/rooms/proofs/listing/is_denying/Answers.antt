-- By the effect's number, where the statement holds.
use Rattle.held.proofs.Laws.Parts.{statement_inside, statement_effect}
use Rattle.rooms.proofs.Laws.ListingStatement.{denies_by}
use Rattle.rooms.proofs.listing.is_denying.Goals as goal

pub bounds-run-p : goal.bounds-run-p
bounds-run-p c = statement_inside c.requires.thing c.requires.lies

pub returns-then-holds : goal.returns-then-holds
returns-then-holds c = λ s l. denies_by s c.if-holds.true (statement_effect s l)
