-- The byte stands behind white space, and white space is passed behind it.
use Rattle.straight.proofs.Laws.Marks.{unless_some, parted_reads}
use Rattle.straight.proofs.Laws.Reads.{closed_inside}
use Rattle.straight.proofs.marks.parted.Goals as goal

pub space-requires : goal.space-requires
space-requires c = closed_inside (c.closed.ensures.found _ c.in_ok-j.was)

pub returns : goal.returns
returns c =
    unless_some (parted_reads (c.closed.ensures.found _ c.in_ok-j.was) c.space.ensures)
