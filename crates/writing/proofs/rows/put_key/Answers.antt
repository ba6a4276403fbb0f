-- The key's length stands behind the operator.
use mathlib.Core.Path.{ap}
use native.Mathlib.Omega.{arith}
use Rattle.chars.specs.Written.{written_text}
use Rattle.held.proofs.Laws.Runs.{row_named}
use Rattle.writing.proofs.Laws.Showing.{adds_as, adds_then}
use Rattle.writing.proofs.Laws.Pieces.{name_alone}
use Rattle.writing.proofs.rows.put_key.Goals as goal

pub bounds-run-p : goal.bounds-run-p
bounds-run-p c =
    (row_named c.requires.thing c.requires.lies).inside

pub overflow_cast-n : goal.overflow_cast-n
overflow_cast-n c =
    omega (
      arith,
      (row_named c.requires.thing c.requires.lies).ends,
      (row_named c.requires.thing
          c.requires.lies).bounded,
    )

pub overflow_add-to : goal.overflow_add-to
overflow_add-to c =
    omega (
      arith,
      (row_named c.requires.thing c.requires.lies).ends,
      (row_named c.requires.thing
          c.requires.lies).bounded,
    )

pub slice_bounds-put_symbols-end : goal.slice_bounds-put_symbols-end
slice_bounds-put_symbols-end c =
    (row_named c.requires.thing c.requires.lies).ends

pub returns : goal.returns
returns c =
    λ x l. adds_as (name_alone (written_text x.key)) (adds_then c.put.ensures
    (adds_then (adds_as (ap written_text (row_named x l).is) c.put_symbols.ensures)
    c.put_bytes.ensures))
