-- Each turn takes a character's bytes off the room that is left.
use Rattle.chars.proofs.Laws.Written.Runs.{Fitting}
use Rattle.chars.proofs.written.fits.Given as goal

abbrev pub invariant-loop-c : goal.invariant-loop-c
invariant-loop-c l = Fitting l.cs l.room l.left l.c-index
