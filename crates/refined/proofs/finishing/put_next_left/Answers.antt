-- A statement that is not left is passed over.
use Rattle.writing.specs.Bytes.{statement_bytes}
use Rattle.refined.proofs.Laws.KeepingLists.{reach_none, reach_one}
use Rattle.refined.proofs.Laws.KeepingWhole.{left_none, left_one}
use Rattle.refined.proofs.finishing.put_next_left.Goals as goal

pub returns-then-not-is_left : goal.returns-then-not-is_left
returns-then-not-is_left c =
    λ y. reach_none statement_bytes (left_none y.thing _ (c.is_left.ensures y.thing y.lies)
    c.if-not-is_left.true)

pub returns : goal.returns
returns c =
    λ y. reach_one statement_bytes
    (left_one y.thing _ (c.is_left.ensures y.thing y.lies) c.if-not-is_left.false)
    c.put_between.ensures (c.put_left.ensures y)
