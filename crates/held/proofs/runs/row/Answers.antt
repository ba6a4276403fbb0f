-- The entries lie behind the key.
use Rattle.held.proofs.Laws.Runs.{row_named, row_passes}
use Rattle.held.proofs.runs.row.Goals as goal

pub bounds-run-at : goal.bounds-run-at
bounds-run-at c = (row_named c.requires.thing c.requires.lies).inside

pub list-l-requires : goal.list-l-requires
list-l-requires c = record {
  thing = c.requires.thing.entries;
  lies =
      (row_named c.requires.thing c.requires.lies).rest;
}

pub returns : goal.returns
returns c = λ x l. row_passes x l _ (c.list-l.ensures x.entries (row_named x l).rest)
