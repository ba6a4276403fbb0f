-- The list stands behind the key.
use mathlib.Core.Path.{ap}
use Prim.Native.Nat.{ℕ}
use Rattle.held.proofs.Laws.Parts.{row_inside, row_operator, row_lying, entries_lying, entries_lie}
use Rattle.writing.specs.Bytes.{list_bytes, row_bytes}
use Rattle.writing.proofs.Laws.Showing.{adds_as, adds_then}
use Rattle.writing.proofs.rows.put_row.Goals as goal

pub behind_label-requires : goal.behind_label-requires
behind_label-requires c = row_lying c.requires

pub bounds-run-p : goal.bounds-run-p
bounds-run-p c =
    row_inside c.requires.thing c.requires.lies

pub put_list-requires : goal.put_list-requires
put_list-requires c =
    entries_lying c.requires c.behind_label.ensures

pub returns : goal.returns
unfolding row_bytes
returns c =
    λ x l. adds_then (c.put_key.ensures x l)
    (adds_as (ap (λ (k : ℕ). list_bytes k x.entries) (row_operator x l))
    (c.put_list.ensures x.entries (entries_lie x l c.behind_label.ensures)))
