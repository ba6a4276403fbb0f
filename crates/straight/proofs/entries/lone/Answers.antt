-- One entry behind the place of its number, which is 1.
use Prim.Native.Nat.{◌+◌}
use native.Mathlib.Omega.{arith}
use Rattle.held.specs.Held.{held_value}
use Rattle.parts.specs.Holding.{entry_of}
use Rattle.straight.proofs.Laws.Taking.{takes_past}
use Rattle.straight.proofs.Laws.Entries.{lone_taken}
use Rattle.straight.proofs.entries.lone.Goals as goal

pub returns : goal.returns
returns c =
    lone_taken c.args.k (omega (arith, c.if-run-at.false))
    (takes_past held_value 0 c.args.s.now c.args.run.now _ c.args.v (c.args.at + 1)
    (entry_of c.args.k) c.entry.ensures c.in_ok-h.was)
