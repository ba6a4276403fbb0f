-- One entry or those of a list, behind their number, which is written last.
use Prim.Native.Nat.{◌+◌}
use native.Mathlib.Omega.{arith}
use Rattle.syntax.specs.Members.{one_or_more}
use Rattle.held.specs.Held.{held_value}
use Rattle.parts.specs.Holding.{entry_of}
use Rattle.straight.proofs.Laws.Taking.{several_past}
use Rattle.straight.proofs.Laws.Laying.{several_taken}
use Rattle.straight.proofs.entries.entries.Goals as goal

pub returns : goal.returns
returns c =
    several_taken (omega (arith, c.if-run-at.false))
    (several_past held_value 1 c.args.s.now c.args.run.now _ c.args.v (c.args.at + 1)
    (one_or_more (entry_of c.args.k)) c.listed.ensures c.in_ok-past.was)
