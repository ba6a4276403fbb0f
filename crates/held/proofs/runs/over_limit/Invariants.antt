-- Each turn passes one statement; whichever policy lies in the run is the one walked over.
use Rattle.held.specs.Held.{held_statement, statement_over, statement_entries}
use Rattle.held.proofs.Laws.RunsWalk.{Walks}
use Rattle.held.proofs.runs.over_limit.Given as goal

abbrev pub invariant-loop : goal.invariant-loop
invariant-loop l = Walks held_statement statement_over statement_entries
    l.run 1 l.n l.counter l.seen.past l.seen.entries l.seen.over
