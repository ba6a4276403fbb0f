-- Each turn passes one entry and its row, and puts it behind those before it where the row holds something.
use Prim.Native.Nat.{◌+◌}
use Rattle.held.specs.Held.{held_value}
use Rattle.writing.proofs.Laws.Telling.{Tellings}
use Rattle.refined.proofs.Laws.KeepingLists.{Waiting, tell_kept}
use Rattle.refined.proofs.finishing.put_kept_list.Given as goal

abbrev pub invariant-loop-i : goal.invariant-loop-i
invariant-loop-i l =
    Tellings held_value (tell_kept l.kind l.room) (Waiting l.room) (0, l.s) l.run (l.at + 1) l.initial.sink l.n l.i l.e (l.k, l.j) l.sink
