-- Each turn stores one byte.
use lib.ListN.{length}
use Rattle.writing.proofs.Laws.Copying.{Copied}
use Rattle.restate.proofs.operations.copy.Given as goal

abbrev pub invariant-loop-i : goal.invariant-loop-i
invariant-loop-i l = Copied l.bytes (length l.bytes) l.initial.out l.out l.i
