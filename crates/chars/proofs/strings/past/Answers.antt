-- If the end comes first, both sides of `rest` are empty.
use native.Mathlib.Omega.{arith}
use Rattle.chars.proofs.Laws.Strings.Steps.{past_least}
use Rattle.chars.proofs.strings.past.Goals as goal

pub returns : goal.returns
returns c = past_least _ _ _ _ c.requires (omega arith) (omega arith) (omega arith) (λ h. omega arith)
