-- 1; or the policy is refused at once; or it is read, in a run that is long enough.
use lib.ListN.{length}
use borrow.Author.Tests.{eq-eqb, ne_eqb}
use Rattle.decide.proofs.Laws.Operations.{handed_on}
use Rattle.refine.specs.Operations.{room_numbers, no_room, no_policy}
use Rattle.refine.proofs.operations.feed.Goals as goal

pub returns-then-room-ne-ROOM : goal.returns-then-room-ne-ROOM
returns-then-room-ne-ROOM c = no_room (ne_eqb (length c.args.room.now) room_numbers c.if-room-ne-ROOM.true)

pub returns-in_err-soon : goal.returns-in_err-soon
returns-in_err-soon c =
    let fits = eq-eqb (length c.args.room.now) room_numbers c.if-room-ne-ROOM.false in
    rw (handed_on _ c.from_residual.ensures.1) (no_policy fits c.in_err-soon.ensures)
