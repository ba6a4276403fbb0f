-- Each turn puts one entry behind those before it; whichever entries lie at the place are the ones put.
use Prim.Native.Nat.{◌+◌, ◌-◌}
use Rattle.held.specs.Held.{held_value}
use Rattle.writing.specs.Bytes.{listed, entry_bytes}
use Rattle.writing.proofs.Laws.Telling.{Tellings, Freely}
use Rattle.writing.proofs.entries.put_list.Given as goal

abbrev pub invariant-loop-i : goal.invariant-loop-i
invariant-loop-i l =
    Tellings held_value (listed (entry_bytes l.kind)) Freely 0 l.run (l.at + 1) l.initial.sink l.n l.i l.e l.i l.sink

abbrev pub decreases-loop-i : goal.decreases-loop-i
decreases-loop-i l = l.n - l.i
