-- As long as none was found, the rest of the string is owed behind the bytes passed.
use native.Mathlib.Omega.{arith}
use Rattle.text.proofs.Laws.Reading.{stay}
use Rattle.chars.proofs.Laws.Tests.{neither}
use Rattle.text.proofs.Laws.Plain.{plain_more, plain_at}
use borrow.Author.Rules.{rules}
use Rattle.text.proofs.quoted.special_in_eight.Goals as goal

pub loop-j-init : goal.loop-j-init
loop-j-init c = (search rules, λ e. plain_at (stay _ _ _ (omega arith)) (omega arith))

pub loop-j-preserved : goal.loop-j-preserved
loop-j-preserved c = (
  omega arith,
  λ e.
      let n = neither _ _ e in
      plain_at (plain_more (c.loop-j.invariant.1 n.0) (omega arith)
      (c.special-found.ensures n.1)) (omega arith),
)

pub returns : goal.returns
returns c e = plain_at (c.loop-j.invariant.1 e) (omega arith)
