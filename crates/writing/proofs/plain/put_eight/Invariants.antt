-- Each turn stores one character.
use Rattle.writing.specs.Plain.{PlainPut}
use Rattle.writing.proofs.plain.put_eight.Given as goal

abbrev pub invariant-loop-j : goal.invariant-loop-j
invariant-loop-j l = PlainPut l.ys l.j l.initial.out l.out
