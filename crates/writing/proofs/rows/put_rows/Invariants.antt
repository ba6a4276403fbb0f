-- Each turn puts one row behind those before it.
use Prim.Native.Nat.{◌+◌}
use Rattle.held.specs.Held.{held_row}
use Rattle.writing.specs.Bytes.{rows_from}
use Rattle.writing.proofs.Laws.Telling.{Tellings, Freely}
use Rattle.writing.proofs.rows.put_rows.Given as goal

abbrev pub invariant-loop : goal.invariant-loop
invariant-loop l =
    Tellings held_row rows_from Freely 0 l.run (l.at + 1) l.initial.sink l.n l.counter l.p l.last l.sink
