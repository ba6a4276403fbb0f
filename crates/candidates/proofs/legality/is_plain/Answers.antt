-- By the place, and by the character where it is Action.
use native.Mathlib.Omega.{arith}
use Rattle.std.proofs.lemmas.Grind.{common_steps}
use Rattle.chars.specs.Base.{one_of}
use Rattle.candidates.proofs.legality.is_plain.Goals as goal
use Rattle.candidates.proofs.legality.is_plain.Goals.{in_default-via-in-Action+in_default, in_default-via-in_default}

pub returns-in-Action-eq42 : goal.returns-in-Action-eq42
unfolding one_of
returns-in-Action-eq42 c = grind (arith, common_steps)

pub returns-in_default : goal.returns-in_default
unfolding one_of
returns-in_default c =
    elim c.in_default.branch [
      | in_default-via-in-Action+in_default w ↦ grind (arith, common_steps)
      | in_default-via-in_default w ↦ grind (arith, common_steps)
    ]
