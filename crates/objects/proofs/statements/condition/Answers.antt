-- The rows are held behind the place of their number.
use native.Mathlib.Omega.{arith}
use Rattle.straight.proofs.Laws.Laying.{several_taken}
use Rattle.objects.proofs.statements.condition.Goals as goal

pub returns : goal.returns
returns c = several_taken (omega (arith, c.if-run-at.false)) c.in_ok-past.ensures
