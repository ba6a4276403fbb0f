-- Each turn puts one byte more.
use native.Mathlib.Omega.{arith}
use Rattle.chars.proofs.Laws.Strings.Runs.{moves_byte, moves_at}
use Rattle.chars.proofs.strings.put_eight.Goals as goal

pub loop-j-preserved : goal.loop-j-preserved
loop-j-preserved c = (
  omega arith,
  moves_at (moves_byte c.loop-j.j c.loop-j.invariant.1 (omega (arith, c.requires.0)) (c.requires.2 c.loop-j.j c.loop-j-test.true) c.from.ensures) (omega arith),
)
