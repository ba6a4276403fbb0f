-- The lists lie one behind the other, behind the Sid.
use native.Mathlib.Omega.{arith}
use Rattle.held.proofs.Laws.RunsStatement.{statement_named, statement_passes, statement_few}
use Rattle.held.proofs.Laws.RunsStatement.{actions_lying, resources_lying, rows_lying}
use Rattle.held.proofs.runs.statement.Goals as goal

pub bounds-run-at : goal.bounds-run-at
bounds-run-at c = (statement_named c.requires.thing c.requires.lies).inside

pub list-a-requires : goal.list-a-requires
list-a-requires c = actions_lying c.requires.thing c.requires.lies

pub list-b-requires : goal.list-b-requires
list-b-requires c =
    resources_lying c.requires.thing c.requires.lies c.list-a.ensures

pub rows-c-requires : goal.rows-c-requires
rows-c-requires c =
    rows_lying c.requires.thing c.requires.lies c.list-a.ensures c.list-b.ensures

pub overflow_add-result : goal.overflow_add-result
overflow_add-result c =
    omega (
      arith,
      statement_few c.requires.thing c.requires.lies
          c.list-a.ensures c.list-b.ensures
          c.rows-c.ensures,
    )

pub overflow_add-result-2 : goal.overflow_add-result-2
overflow_add-result-2 c =
    omega (
      arith,
      statement_few c.requires.thing c.requires.lies
          c.list-a.ensures c.list-b.ensures
          c.rows-c.ensures,
    )

pub returns : goal.returns
returns c =
    λ x l.
    statement_passes x l c.list-a.ensures
    c.list-b.ensures
    c.rows-c.ensures
