-- Each turn puts one row behind those before it.
use Prim.Native.Nat.{◌+◌}
use Rattle.held.specs.Held.{held_row}
use Rattle.writing.proofs.Laws.Telling.{Tellings}
use Rattle.refined.proofs.Laws.KeepingRows.{tell_rows, RowsReady}
use Rattle.refined.proofs.finishing.put_kept_rows.Given as goal

abbrev pub invariant-loop-i : goal.invariant-loop-i
invariant-loop-i l =
    Tellings held_row (tell_rows l.room) (RowsReady l.room) (0, l.s) l.run (l.at + 1) l.initial.sink l.n l.i l.p (l.last, l.a) l.sink
