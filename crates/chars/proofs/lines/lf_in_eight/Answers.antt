-- As long as none was found, the line ends where it did.
use native.Mathlib.Omega.{arith}
use Rattle.chars.proofs.Laws.Lines.Found.{eight_next}
use Rattle.chars.proofs.lines.lf_in_eight.Goals as goal

pub loop-j-preserved : goal.loop-j-preserved
loop-j-preserved c =
    (omega arith, λ e. eight_next c.args.s.now c.args.at c.loop-j.j c.loop-j.found c.loop-j.invariant.1 (omega arith) e)
