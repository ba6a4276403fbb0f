-- The places passed are converted.
use native.Mathlib.Omega.{arith}
use Rattle.syntax.proofs.Laws.Converting.{turned_start, turned_more, turned_end}
use Rattle.syntax.proofs.symbols.wildcards.Goals as goal

pub loop-c-init : goal.loop-c-init
loop-c-init c = turned_start c.args.run.now

pub loop-c-preserved : goal.loop-c-preserved
loop-c-preserved c = turned_more c.loop-c.invariant c.wildcard.ensures

pub returns : goal.returns
returns c = turned_end c.loop-c.invariant (omega (arith, c.loop-c-test.false, c.loop-c.auto.c-items))
