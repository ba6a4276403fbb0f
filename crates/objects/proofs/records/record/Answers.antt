-- The request stands between white space, up to the text's end.
use native.Mathlib.Omega.{arith}
use Rattle.straight.proofs.Laws.Marks.{space_reads}
use Rattle.straight.proofs.Laws.Reads.{reads_inside}
use Rattle.objects.proofs.Laws.Words.{text_taken}
use Rattle.objects.proofs.records.record.Goals as goal

pub space-requires : goal.space-requires
space-requires c = reads_inside c.in_ok-past.ensures.reads

pub returns : goal.returns
returns c =
    text_taken (omega arith) (space_reads c.space-v.ensures) c.in_ok-past.ensures
    (space_reads c.space.ensures) (omega (arith, c.space.ensures.high, c.if-space-s.false))
