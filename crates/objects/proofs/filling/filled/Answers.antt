-- The part is there, or the numbers are put behind all others.
use mathlib.Core.Path.{refl}
use native.Mathlib.Omega.{arith}
use Rattle.objects.specs.Filling.{there}
use Rattle.objects.proofs.Laws.Filling.{put_absent}
use Rattle.objects.proofs.filling.filled.Goals as goal

pub returns-then-spans-k-ne0 : goal.returns-then-spans-k-ne0
returns-then-spans-k-ne0 c = there c.if-spans-k-ne0.true refl refl

pub returns : goal.returns
returns c =
    put_absent c.if-spans-k-ne0.false c.copy_from_slice.ensures.after (omega (arith, c.if-run-from.false, c.requires.1))
    (omega arith)
