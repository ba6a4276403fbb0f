-- Each turn passes one row; whichever rows lie at the place are the ones walked over.
use lib.ListN.{length}
use Rattle.held.specs.Held.{held_row, row_over}
use Rattle.held.proofs.Laws.RunsWalk.{Walks}
use Rattle.held.proofs.runs.rows_from.Given as goal

abbrev pub invariant-loop : goal.invariant-loop
invariant-loop l = Walks held_row row_over (λ r. length r.entries)
    l.run l.at l.n l.counter l.seen.past l.seen.entries l.seen.over
