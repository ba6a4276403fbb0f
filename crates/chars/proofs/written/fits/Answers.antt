-- Each turn takes a character's bytes off the room that is left.
use native.Mathlib.Omega.{arith}
use Rattle.chars.proofs.Laws.Written.Runs.{fitting_next, fitting_short, fitting_end}
use Rattle.chars.proofs.written.fits.Goals as goal

pub returns-in_default : goal.returns-in_default
returns-in_default c =
    let short = c.in_default.ensures in
    fitting_short c.loop-c.invariant c.loop-c-test.true c.width.ensures (omega (arith, short))

pub loop-c-preserved : goal.loop-c-preserved
loop-c-preserved c =
    let rest = c.in-Some.ensures in
    rw rest.1 (fitting_next c.loop-c.invariant c.loop-c-test.true c.width.ensures rest.0)

pub returns : goal.returns
returns c = fitting_end c.loop-c.invariant c.loop-c-test.false
