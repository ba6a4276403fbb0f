-- Each turn takes one entry behind those before it, and the mark behind it tells whether another comes.
use Prim.Native.Nat.{◌-◌}
use lib.ListN.{length}
use Rattle.held.specs.Held.{held_value}
use Rattle.parts.specs.Holding.{entry_of}
use Rattle.straight.proofs.Laws.Entries.{Listing}
use Rattle.straight.proofs.entries.listed.Given as goal

abbrev pub invariant-loop-h : goal.invariant-loop-h
invariant-loop-h l = Listing held_value (entry_of l.k) 0 l.s l.v l.initial.run l.at l.i l.run l.past l.count

abbrev pub decreases-loop-h : goal.decreases-loop-h
decreases-loop-h l = length l.s - l.i
