-- As long as none was found, no quote stands among the bytes passed.
use native.Mathlib.Omega.{arith}
use Rattle.chars.proofs.Laws.Tests.{neither}
use Rattle.text.proofs.Laws.Seeking.{nears_none, nears_other, nears_at}
use borrow.Author.Rules.{rules}
use Rattle.text.proofs.ends.mark_in_eight.Goals as goal

pub loop-j-init : goal.loop-j-init
loop-j-init c = (search rules, λ e. nears_at (nears_none (omega arith)) (omega arith))

pub loop-j-preserved : goal.loop-j-preserved
loop-j-preserved c = (
  omega arith,
  λ e.
      let n = neither _ _ e in
      nears_at (nears_other (c.loop-j.invariant.1 n.0) (omega arith) (c.mark-found.ensures n.1))
      (omega arith),
)

pub returns : goal.returns
returns c e = nears_at (c.loop-j.invariant.1 e) (omega arith)
