-- In one range or the other.
use native.Mathlib.Omega.{arith}
use Rattle.std.proofs.lemmas.Grind.{common_steps}
use Rattle.candidates.specs.Entries.{is_scalar}
use Rattle.candidates.proofs.legality.is_scalar.Goals as goal

pub returns-in_default : goal.returns-in_default
unfolding is_scalar
returns-in_default c = grind (arith, common_steps)

pub returns-in_default-2 : goal.returns-in_default-2
unfolding is_scalar
returns-in_default-2 c = grind (arith, common_steps)

pub returns-in-0-to-55295 : goal.returns-in-0-to-55295
unfolding is_scalar
returns-in-0-to-55295 c = grind (arith, common_steps)

pub returns-in-0-to-55295-2 : goal.returns-in-0-to-55295-2
unfolding is_scalar
returns-in-0-to-55295-2 c = grind (arith, common_steps)
