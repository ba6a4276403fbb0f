-- Nothing where there was no row before.
use Rattle.writing.proofs.Laws.Showing.{adds_as}
use Rattle.writing.proofs.Laws.Pieces.{ending_none, ending_some}
use Rattle.writing.proofs.rows.put_ending.Goals as goal

pub returns-then-last-ne0 : goal.returns-then-last-ne0
returns-then-last-ne0 c = adds_as (ending_some _ c.if-last-ne0.true) c.put_bytes.ensures

pub returns-else-last-ne0 : goal.returns-else-last-ne0
returns-else-last-ne0 c = ending_none c.if-last-ne0.false
