-- A comma; or the end of the last operator's rows and the next one's name.
use Rattle.writing.proofs.Laws.Showing.{adds_as, adds_then}
use Rattle.writing.proofs.Laws.Pieces.{turning_same, turning_other}
use Rattle.writing.proofs.rows.put_turning.Goals as goal

pub returns-then-last-operator : goal.returns-then-last-operator
returns-then-last-operator c =
    adds_as (turning_same _ _ c.if-last-operator.true) c.put.ensures

pub returns : goal.returns
returns c =
    adds_as (turning_other _ _ c.if-last-operator.false)
    (adds_then c.put_ending.ensures (adds_then c.put-2.ensures (adds_then c.put_operator.ensures c.put_bytes.ensures)))
