-- White space is passed, and the byte stands behind it.
use native.Mathlib.Omega.{arith}
use Rattle.straight.proofs.Laws.Marks.{unless_some, closed_reads}
use Rattle.straight.proofs.marks.closed.Goals as goal

pub returns : goal.returns
returns c =
    unless_some
    (closed_reads c.space-j.ensures
    (record { inside = omega (arith, c.if-s-j.false); is = c.if-s-j-2.false }))
