-- Nothing before the first thing, a comma before every other one.
use Rattle.writing.proofs.Laws.Chars.{between_none, between_comma}
use Rattle.writing.proofs.sink.Sink.put_between.Goals as goal

pub returns-then-i-ne0 : goal.returns-then-i-ne0
returns-then-i-ne0 c = between_comma _ c.if-i-ne0.true c.put.ensures

pub returns-else-i-ne0 : goal.returns-else-i-ne0
returns-else-i-ne0 c = between_none c.if-i-ne0.false
