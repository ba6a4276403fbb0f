-- Each turn fills one slot or ends the walk; whatever object stands at the place is the one walked over.
use Rattle.parts.specs.Slots.{words_of}
use Rattle.parts.proofs.Laws.Walking.{Walking, left_of}
use Rattle.parts.proofs.members.slots.Given as goal

abbrev pub invariant-loop-m : goal.invariant-loop-m
invariant-loop-m l = Walking l.s l.v (words_of l.layout) l.places l.m

abbrev pub decreases-loop-m : goal.decreases-loop-m
decreases-loop-m l = left_of l.s l.m
