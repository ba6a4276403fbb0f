-- Each turn passes one statement and its rows, and puts it behind those before it where it is left.
use Rattle.held.specs.Held.{held_statement}
use Rattle.writing.proofs.Laws.Telling.{Tellings}
use Rattle.refined.proofs.Laws.KeepingPolicy.{tell_left, PolicyReady, Counts}
use Rattle.refined.proofs.finishing.put_refined.Given as goal

abbrev pub invariant-loop-i : goal.invariant-loop-i
invariant-loop-i l =
    (Tellings held_statement (tell_left l.room) (PolicyReady l.room) (0, 0) l.run 1 l.initial.sink l.n l.i l.p (l.k, l.s) l.sink)
    × (Counts l.run l.room l.n l.i l.p l.s)
