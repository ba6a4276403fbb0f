-- Each turn puts one character behind those that are put.
use Rattle.chars.proofs.Laws.Written.Runs.{Sofar}
use Rattle.chars.proofs.written.write_text.Given as goal

abbrev pub invariant-loop-c : goal.invariant-loop-c
invariant-loop-c l = Sofar l.cs l.initial.out l.out l.at l.c-index
