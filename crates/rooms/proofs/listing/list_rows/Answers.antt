-- Each turn notes the entries of one row behind those before it.
use mathlib.Core.Path.{refl}
use native.Mathlib.Omega.{arith}
use Rattle.held.specs.Held.{held_row}
use Rattle.held.proofs.Laws.Runs.{lies_first, lies_inside, lies_next}
use Rattle.held.proofs.Laws.Parts.{row_operator, row_lying, entries_lie}
use Rattle.decision.specs.Decision.{value_at}
use Rattle.rooms.specs.Rooms.{row_slots, row_hits}
use Rattle.rooms.proofs.Laws.ListingWalk.{list_ending, walk_start, walk_end}
use Rattle.rooms.proofs.Laws.ListingTurns.{rows_size, row_there, row_inside_there, row_noting}
use Rattle.rooms.proofs.Laws.ListingTurns.{row_next, row_as}
use Rattle.rooms.proofs.listing.list_rows.Goals as goal

pub bounds-run-at : goal.bounds-run-at
bounds-run-at c =
    lies_inside c.requires.1.lies

pub overflow_add-p : goal.overflow_add-p
overflow_add-p c =
    omega (arith, lies_inside c.requires.1.lies, c.requires.1.lies.bounded)

pub loop-i-init : goal.loop-i-init
loop-i-init c = λ a xs cs e l w. walk_start xs (lies_first l) (lies_next l)

pub value_of-v-requires : goal.value_of-v-requires
value_of-v-requires c =
    (row_there c.loop-i.invariant c.requires c.loop-i-test.true, c.requires.2)

pub behind_label-l-requires : goal.behind_label-l-requires
behind_label-l-requires c =
    row_lying (row_there c.loop-i.invariant c.requires c.loop-i-test.true)

pub offset_bounds-run-p : goal.offset_bounds-run-p
offset_bounds-run-p c =
    omega (
      arith,
      row_inside_there c.loop-i.invariant c.requires
          c.loop-i-test.true,
      c.requires.1.lies.bounded,
    )

pub bounds-run-p : goal.bounds-run-p
bounds-run-p c =
    row_inside_there c.loop-i.invariant c.requires c.loop-i-test.true

pub list_entries-g-requires : goal.list_entries-g-requires
list_entries-g-requires c =
    row_noting c.loop-i.invariant c.requires c.loop-i-test.true
    c.behind_label-l.ensures c.value_of-v.ensures

pub loop-i-preserved : goal.loop-i-preserved
loop-i-preserved c =
    λ a xs cs e l w.
    row_next a xs cs (c.loop-i.invariant a xs cs e l w) c.loop-i-test.true
    c.behind_label-l.ensures
    (λ x m. row_as a (value_at x.key cs) x.entries (c.operator_of_row.ensures x.operator (row_operator x m))
    (c.list_entries-g.ensures a x.entries (value_at x.key cs) e
    (entries_lie x m c.behind_label-l.ensures) (c.value_of-v.ensures x cs m w)))

pub shape_of-dir : goal.shape_of-dir
shape_of-dir c =
    rows_size c.loop-i.invariant c.requires

pub returns : goal.returns
unfolding row_slots row_hits
returns c =
    λ a xs cs e l w.
    list_ending held_row xs _ (walk_end (c.loop-i.invariant a xs cs e l w) c.loop-i-test.false refl refl)
