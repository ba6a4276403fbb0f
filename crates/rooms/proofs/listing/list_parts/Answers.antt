-- The lists lie one behind the other, each where the one before it ends, and so do the notes of their entries.
use Rattle.held.proofs.Laws.Parts.{statement_inside, statement_lying}
use Rattle.rooms.proofs.Laws.ListingParts.{actions_listed, resources_listed, rows_listed, statement_listed}
use Rattle.rooms.proofs.Laws.ListingParts.{statement_lies, statement_effecting, actions_listable}
use Rattle.rooms.proofs.Laws.ListingParts.{resources_listable, rows_listable}
use Rattle.rooms.proofs.listing.list_parts.Goals as goal

pub bounds-run-p : goal.bounds-run-p
bounds-run-p c =
    statement_inside c.requires.0.thing c.requires.0.lies

pub behind_label-a-requires : goal.behind_label-a-requires
behind_label-a-requires c =
    statement_lying (statement_lies c.requires.0)

pub list_entries-b-requires : goal.list_entries-b-requires
list_entries-b-requires c = (
  statement_effecting c.requires.0,
  actions_listable c.requires.0 c.behind_label-a.ensures,
  c.requires.1,
)

pub list_entries-c-requires : goal.list_entries-c-requires
list_entries-c-requires c = (
  statement_effecting c.requires.0,
  resources_listable c.requires.0 c.behind_label-a.ensures
      (actions_listed c.requires.0.thing c.requires.0.lies c.behind_label-a.ensures c.list_entries-b.ensures
      c.requires.1.valued),
  c.requires.2,
)

pub list_rows-requires : goal.list_rows-requires
list_rows-requires c =
    let x = actions_listed c.requires.0.thing c.requires.0.lies c.behind_label-a.ensures c.list_entries-b.ensures c.requires.1.valued in (
      statement_effecting c.requires.0,
      rows_listable c.requires.0 c.behind_label-a.ensures x
          (resources_listed c.requires.0.thing c.requires.0.lies c.behind_label-a.ensures x.past c.list_entries-c.ensures c.requires.2.valued),
      c.requires.3,
    )

pub returns : goal.returns
returns c =
    λ s f g cs l a b w.
    let x = actions_listed s l c.behind_label-a.ensures c.list_entries-b.ensures a in
    let y = resources_listed s l c.behind_label-a.ensures x.past c.list_entries-c.ensures b in
    statement_listed s f g cs x.lists y.lists
    (rows_listed s l c.behind_label-a.ensures x.past y.past c.list_rows.ensures w)
