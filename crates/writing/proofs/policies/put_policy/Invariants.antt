-- Each turn puts one statement behind those before it.
use Prim.Native.Nat.{◌-◌}
use Rattle.held.specs.Held.{held_statement}
use Rattle.writing.specs.Bytes.{listed, statement_bytes}
use Rattle.writing.proofs.Laws.Telling.{Tellings, Freely}
use Rattle.writing.proofs.policies.put_policy.Given as goal

abbrev pub invariant-loop-i : goal.invariant-loop-i
invariant-loop-i l =
    Tellings held_statement (listed statement_bytes) Freely 0 l.run 1 l.initial.sink l.n l.i l.p l.i l.sink

abbrev pub decreases-loop-i : goal.decreases-loop-i
decreases-loop-i l = l.n - l.i
