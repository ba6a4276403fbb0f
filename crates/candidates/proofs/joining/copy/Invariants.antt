-- Each turn stores one number.
use lib.ListN.{length}
use Rattle.writing.proofs.Laws.Copying.{Copied}
use Rattle.candidates.proofs.joining.copy.Given as goal

abbrev pub invariant-loop-i : goal.invariant-loop-i
invariant-loop-i l = Copied l.from (length l.from) l.initial.to l.to l.i
