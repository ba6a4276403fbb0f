-- The Sid's length stands behind the effect; a Sid of no characters is none.
use mathlib.Core.Path.{sym, ap, ◌∙◌}
use native.Mathlib.Omega.{arith}
use Rattle.chars.specs.Written.{written_text}
use Rattle.held.proofs.Laws.Places.{labelled}
use Rattle.writing.proofs.Laws.Showing.{adds_as, adds_then}
use Rattle.writing.proofs.Laws.Pieces.{sid_none, sid_some}
use Rattle.writing.proofs.statements.put_sid.Goals as goal

pub bounds-run-p : goal.bounds-run-p
bounds-run-p c =
    (labelled c.requires.thing c.requires.lies).inside

pub overflow_cast-n : goal.overflow_cast-n
overflow_cast-n c =
    omega (
      arith,
      (labelled c.requires.thing c.requires.lies).ends,
      (labelled c.requires.thing
          c.requires.lies).bounded,
    )

pub returns-then-n-eq0 : goal.returns-then-n-eq0
returns-then-n-eq0 c = λ x l. sid_none x.label (sym (labelled x l).count ∙ c.if-n-eq0.true)

pub overflow_add-from : goal.overflow_add-from
overflow_add-from c =
    omega (
      arith,
      (labelled c.requires.thing c.requires.lies).ends,
      (labelled c.requires.thing
          c.requires.lies).bounded,
    )

pub overflow_add-to : goal.overflow_add-to
overflow_add-to c =
    omega (
      arith,
      (labelled c.requires.thing c.requires.lies).ends,
      (labelled c.requires.thing
          c.requires.lies).bounded,
    )

pub slice_bounds-put_symbols-start : goal.slice_bounds-put_symbols-start
slice_bounds-put_symbols-start c = omega arith

pub slice_bounds-put_symbols-end : goal.slice_bounds-put_symbols-end
slice_bounds-put_symbols-end c =
    (labelled c.requires.thing c.requires.lies).ends

pub returns : goal.returns
returns c =
    λ x l. adds_as (sid_some x.label (λ e. c.if-n-eq0.false ((labelled x l).count ∙ e)))
    (adds_then c.put_bytes.ensures
    (adds_then (adds_as (ap written_text (labelled x l).is) c.put_symbols.ensures)
    c.put_bytes-2.ensures))
