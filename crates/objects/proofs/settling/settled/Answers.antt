-- As long as each part begins where the one before ends, they are one part.
use native.Mathlib.Omega.{arith}
use Rattle.objects.proofs.Laws.Settling.{lying_start, lying_more, lying_told}
use borrow.Author.Rules.{rules}
use Rattle.objects.proofs.settling.settled.Goals as goal

pub loop-n-init : goal.loop-n-init
loop-n-init c = (search rules, λ run w. lying_start w)

pub returns-then-spans-k : goal.returns-then-spans-k
returns-then-spans-k c = λ run w. lying_told w c.loop-n.invariant.0 (c.loop-n.invariant.1 run w)

pub loop-n-preserved : goal.loop-n-preserved
loop-n-preserved c = (
  omega (arith, c.loop-n-test.true),
  λ run w. lying_more w (c.loop-n.invariant.1 run w) (omega (arith, c.loop-n-test.true)) c.if-spans-k.false,
)

pub returns : goal.returns
returns c = λ run w. lying_told w c.loop-n.invariant.0 (c.loop-n.invariant.1 run w)
