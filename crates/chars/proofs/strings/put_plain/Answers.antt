-- Each turn puts one plain byte more.
use native.Mathlib.Omega.{arith}
use Rattle.chars.proofs.Laws.Strings.Runs.{moves_next}
use Rattle.chars.proofs.strings.put_plain.Goals as goal

pub loop-i-preserved : goal.loop-i-preserved
loop-i-preserved c = (
  omega (arith, c.loop-i.invariant.1.on),
  rw c.put.ensures (moves_next c.loop-i.invariant.1 c.loop-i.invariant.0 c.loop-i-test.true (c.plain.ensures c.if-plain.true) c.from.ensures),
)
