-- Each turn passes one empty row.
use Rattle.refined.proofs.Laws.KeepingTests.{Seeking}
use Rattle.refined.proofs.finishing.has_some.Given as goal

abbrev pub invariant-loop-i : goal.invariant-loop-i
invariant-loop-i l = Seeking l.room l.s l.n l.i l.j
