-- As long as all were spaces, more white space is owed behind the bytes passed.
use native.Mathlib.Omega.{arith}
use Rattle.chars.proofs.Laws.Tests.{each_true}
use Rattle.text.proofs.Laws.Reading.{stay}
use Rattle.text.proofs.Laws.Plain.{blank_more, blank_at, only_space}
use borrow.Author.Rules.{rules}
use Rattle.text.proofs.white.four_spaces.Goals as goal

pub loop-j-init : goal.loop-j-init
loop-j-init c = (search rules, λ e. blank_at (stay _ _ _ (omega arith)) (omega arith))

pub loop-j-preserved : goal.loop-j-preserved
loop-j-preserved c = (
  omega arith,
  λ e.
      let n = each_true _ _ e in
      blank_at (blank_more (c.loop-j.invariant.1 n.0) (omega arith) (only_space _ n.1)) (omega arith),
)

pub returns : goal.returns
returns c e = blank_at (c.loop-j.invariant.1 e) (omega arith)
