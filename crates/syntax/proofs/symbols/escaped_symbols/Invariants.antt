-- Each turn reads from the place where nothing was stored yet, and stores one symbol before it.
use Prim.Native.Nat.{◌-◌}
use lib.ListN.{length}
use Rattle.syntax.proofs.Laws.Converting.{Sofar}
use Rattle.syntax.proofs.symbols.escaped_symbols.Given as goal

abbrev pub invariant-loop-i : goal.invariant-loop-i
invariant-loop-i l = Sofar l.wild l.initial.run l.run l.i l.n

abbrev pub decreases-loop-i : goal.decreases-loop-i
decreases-loop-i l = length l.initial.run - l.i
