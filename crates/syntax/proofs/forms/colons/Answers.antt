-- The colons passed and those to come are all of them.
use native.Mathlib.Omega.{arith}
use Rattle.syntax.proofs.Laws.Resources.{counting_start, counting_one, counting_other, counting_end}
use Rattle.syntax.proofs.forms.colons.Goals as goal
use Rattle.syntax.proofs.forms.colons.Goals.{then-c-eq-COLON, else-c-eq-COLON}

pub loop-c-init : goal.loop-c-init
loop-c-init c = counting_start c.args.cs.now

pub overflow_add-n : goal.overflow_add-n
overflow_add-n c = omega (arith, c.loop-c.invariant.low, c.loop-c-test.true)

pub loop-c-preserved : goal.loop-c-preserved
loop-c-preserved c =
    elim c.if-c-eq-COLON.branch [
      | then-c-eq-COLON w ↦
          counting_one c.loop-c.invariant c.loop-c-test.true w.if-c-eq-COLON.true w.n-is
      | else-c-eq-COLON w ↦
          counting_other c.loop-c.invariant c.loop-c-test.true w.if-c-eq-COLON.false w.n-is
    ]

pub returns : goal.returns
returns c = counting_end c.loop-c.invariant (omega (arith, c.loop-c-test.false))
