-- The statements lie behind the place of their number.
use native.Mathlib.Omega.{arith}
use Rattle.objects.proofs.Laws.Policies.{listed_laid}
use Rattle.objects.proofs.policies.several.Goals as goal

pub returns : goal.returns
returns c = listed_laid (omega (arith, c.if-run-eq0.false)) c.in_ok-past.ensures
