-- The places passed are converted.
use Rattle.syntax.proofs.Laws.Converting.{Turned}
use Rattle.syntax.proofs.symbols.wildcards.Given as goal

abbrev pub invariant-loop-c : goal.invariant-loop-c
invariant-loop-c l = Turned l.fn.run l.c-items l.c-index
