-- Every byte passed is not special.
use native.Mathlib.Omega.{arith}
use Rattle.text.proofs.Laws.Reading.{stay}
use Rattle.text.proofs.Laws.Plain.{plain_more, plain_at}
use borrow.Author.Rules.{rules}
use Rattle.text.proofs.quoted.plain_of_eight.Goals as goal

pub loop-j-init : goal.loop-j-init
loop-j-init c = (search rules, plain_at (stay _ _ _ (omega arith)) (omega arith))

pub returns-then-special : goal.returns-then-special
returns-then-special c = c.loop-j.invariant.1

pub loop-j-preserved : goal.loop-j-preserved
loop-j-preserved c = (
  omega arith,
  plain_at (plain_more c.loop-j.invariant.1 (omega arith)
      (c.special.ensures c.if-special.false)) (omega arith),
)

pub returns : goal.returns
returns c = plain_at c.loop-j.invariant.1 (omega arith)
