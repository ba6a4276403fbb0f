-- Another length is refused; else the whole room is cleared.
use Rattle.refine.proofs.Laws.Operations.{fresh_refused, fresh_done}
use Rattle.refine.proofs.operations.fresh.Goals as goal

pub returns-then-room-ne-ROOM : goal.returns-then-room-ne-ROOM
returns-then-room-ne-ROOM c = fresh_refused _ c.if-room-ne-ROOM.true

pub returns : goal.returns
returns c = fresh_done _ c.if-room-ne-ROOM.false c.clear.ensures
