-- 1 of either room; or the policy is refused at once; or it is read, in a run that is long enough.
use lib.ListN.{length}
use borrow.Author.Tests.{eq-eqb, ne_eqb}
use Rattle.decide.proofs.Laws.Operations.{handed_on}
use Rattle.refine.specs.Operations.{room_numbers, no_room, no_other, no_policy}
use Rattle.refine.proofs.operations.join.Goals as goal
use Rattle.refine.proofs.operations.join.Goals.{then-room-ne-ROOM-via-then-room-ne-ROOM}
use Rattle.refine.proofs.operations.join.Goals.{then-room-ne-ROOM-via-else-room-ne-ROOM+then-other-ne-ROOM}

pub returns-then-room-ne-ROOM : goal.returns-then-room-ne-ROOM
returns-then-room-ne-ROOM c =
    elim c.then-room-ne-ROOM.branch [
      | then-room-ne-ROOM-via-then-room-ne-ROOM w ↦
          no_room (ne_eqb (length c.args.room.now) room_numbers w.if-room-ne-ROOM.true)
      | then-room-ne-ROOM-via-else-room-ne-ROOM+then-other-ne-ROOM w ↦
          no_other (eq-eqb (length c.args.room.now) room_numbers w.if-room-ne-ROOM.false)
          (ne_eqb (length c.args.other.now) room_numbers w.if-other-ne-ROOM.true)
    ]

pub returns-in_err-soon : goal.returns-in_err-soon
returns-in_err-soon c =
    let fits = eq-eqb (length c.args.room.now) room_numbers c.if-room-ne-ROOM.false in
    let other-fits = eq-eqb (length c.args.other.now) room_numbers c.if-other-ne-ROOM.false in
    rw (handed_on _ c.from_residual.ensures.1) (no_policy fits other-fits c.in_err-soon.ensures)
