-- The colons passed and those to come are all of them.
use Rattle.syntax.proofs.Laws.Resources.{Counting}
use Rattle.syntax.proofs.forms.colons.Given as goal

abbrev pub invariant-loop-c : goal.invariant-loop-c
invariant-loop-c l = Counting l.cs l.n l.c-index
