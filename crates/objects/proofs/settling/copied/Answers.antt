-- Each turn copies one part behind those before it; the parts themselves lie before all of that.
use native.Mathlib.Omega.{arith}
use Rattle.objects.proofs.Laws.Settling.{copying_more}
use Rattle.objects.proofs.settling.copied.Goals as goal

pub loop-n-preserved : goal.loop-n-preserved
loop-n-preserved c = (
  omega (arith, c.loop-n-test.true),
  copying_more c.requires.0 c.loop-n.invariant.1 (omega (arith, c.loop-n-test.true))
      c.moved-p.ensures,
)
