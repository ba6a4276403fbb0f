-- White space up to the end, or something else.
use native.Mathlib.Omega.{arith}
use Rattle.text.proofs.Laws.Values.{ended_breaks, ended_whole}
use Rattle.text.proofs.scan.ended.Goals as goal

pub returns-then-j-s : goal.returns-then-j-s
returns-then-j-s c = ended_breaks c.space-j.ensures c.if-j-s.true

pub returns : goal.returns
returns c = ended_whole c.space-j.ensures (omega (arith, c.if-j-s.false))
