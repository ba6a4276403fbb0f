-- Each turn puts eight bytes that were tested and for which there is room.
use native.Mathlib.Omega.{arith}
use Rattle.straight.proofs.Laws.Strings.{puts_none, puts_then}
use borrow.Author.Rules.{rules}
use Rattle.straight.proofs.strings.put_eights.Goals as goal

pub loop-n-init : goal.loop-n-init
loop-n-init c =
    (search rules, puts_none c.args.run.now c.args.to c.requires.0)

pub loop-n-preserved : goal.loop-n-preserved
loop-n-preserved c = (
  omega (arith, c.loop-n.invariant.0, c.if-run-to-ge8.true, c.put_eight.ensures.size),
  puts_then c.loop-n.invariant.1 8 (omega (arith, c.loop-n.invariant.1.inside, c.loop-n-test.true))
      (c.plain_eight.ensures c.if-plain_eight.true)
      c.put_eight.ensures,
)
