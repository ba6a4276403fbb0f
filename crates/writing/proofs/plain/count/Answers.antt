-- One where the test let it pass, else none.
use native.Mathlib.Omega.{arith}
use borrow.Author.Rules.{rules}
use Rattle.writing.proofs.plain.count.Goals as goal

pub returns-then-plain : goal.returns-then-plain
returns-then-plain c = (search rules, λ e. c.plain.ensures c.if-plain.true)

pub returns-else-plain : goal.returns-else-plain
returns-else-plain c = (search rules, λ e. absurd (omega arith))
