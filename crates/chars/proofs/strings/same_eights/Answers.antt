-- Every block passed is plain, and the same in both.
use native.Mathlib.Omega.{arith}
use Rattle.chars.proofs.Laws.Strings.Runs.{match_eight}
use Rattle.chars.proofs.strings.same_eights.Goals as goal

pub loop-i-preserved : goal.loop-i-preserved
loop-i-preserved c = (
  omega (arith, c.loop-i-test.true, c.loop-i.invariant.0),
  match_eight c.loop-i.invariant.1 (omega (arith, c.loop-i-test.true, c.loop-i.invariant.0)) (omega (arith, c.if-w-i-ge8.true, c.loop-i.invariant.1.high))
      (c.same_eight.ensures c.if-same_eight.true),
)
