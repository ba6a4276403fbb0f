-- Each turn passes one value; whichever values lie at the place are the ones walked over.
use Rattle.held.specs.Held.{held_value, long_value}
use Rattle.held.proofs.Laws.RunsWalk.{Walks}
use Rattle.held.proofs.runs.values.Given as goal

abbrev pub invariant-loop : goal.invariant-loop
invariant-loop l = Walks held_value long_value (λ x. 1) l.run l.at l.n l.counter l.seen.past l.seen.entries l.seen.over
