-- Each turn holds one element behind those before it, or ends the walk.
use Rattle.held.specs.Held.{held_value}
use Rattle.parts.specs.Holding.{entry_of}
use Rattle.parts.proofs.Laws.Fits.{entry_fits}
use Rattle.parts.proofs.Laws.Gathering.{Gathering, element_left}
use Rattle.parts.proofs.entries.hold_list.Given as goal

abbrev pub invariant-loop-m : goal.invariant-loop-m
invariant-loop-m l = Gathering held_value (entry_of l.k) (entry_fits l.k) l.s l.v l.initial.run l.at l.run l.m l.past l.count

abbrev pub decreases-loop-m : goal.decreases-loop-m
decreases-loop-m l = element_left l.s l.m
