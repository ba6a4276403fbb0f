-- The byte stands there, and white space is passed behind it.
use native.Mathlib.Omega.{arith}
use Rattle.straight.proofs.Laws.Marks.{unless_some, opened_reads}
use Rattle.straight.proofs.marks.opened.Goals as goal

pub returns : goal.returns
returns c =
    unless_some
    (opened_reads (record { inside = omega (arith, c.if-s-v.false); is = c.if-s-v-2.false })
    c.space.ensures)
