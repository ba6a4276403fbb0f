-- The list stands behind the key.
use Rattle.held.proofs.Laws.Parts.{row_inside, row_operator, row_lying, entries_lie}
use Rattle.refined.specs.Keeping.{kept_row}
use Rattle.refined.proofs.Laws.KeepingRows.{row_adds}
use Rattle.refined.proofs.finishing.put_kept_row.Goals as goal

pub behind_label-at-requires : goal.behind_label-at-requires
behind_label-at-requires c =
    row_lying (record { thing = c.requires.thing; lies = c.requires.lies })

pub bounds-run-p : goal.bounds-run-p
bounds-run-p c =
    row_inside c.requires.thing c.requires.lies

pub put_kept_list-requires : goal.put_kept_list-requires
put_kept_list-requires c =
    record {
      thing = c.requires.thing.entries;
      lies = entries_lie c.requires.thing c.requires.lies c.behind_label-at.ensures;
      ready = c.requires.ready;
    }

pub returns : goal.returns
returns c =
    λ y. row_adds (kept_row y.thing _) (row_operator y.thing y.lies)
    (c.put_key.ensures y.thing y.lies)
    (c.put_kept_list.ensures (record {
      thing = y.thing.entries;
      lies = entries_lie y.thing y.lies c.behind_label-at.ensures;
      ready = y.ready;
    }))
