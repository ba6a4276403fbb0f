-- One word for each number.
use native.Mathlib.Omega.{arith}
use Rattle.writing.proofs.Laws.Showing.{adds_as}
use Rattle.writing.proofs.Laws.Pieces.{effect_allow, effect_deny}
use Rattle.writing.proofs.statements.put_effect.Goals as goal

pub returns-in-1 : goal.returns-in-1
returns-in-1 c = adds_as (effect_allow _ c.in-1.is) c.put_bytes.ensures

pub returns-in_default : goal.returns-in_default
returns-in_default c = adds_as (effect_deny c.args.effect (λ e. omega arith)) c.put_bytes-in_default.ensures
