-- The mark of a single text, and all numbers alike.
use mathlib.Core.Path.{◌∙◌}
use native.Mathlib.Omega.{arith}
use Rattle.candidates.proofs.Laws.Chains.{same_by}
use Rattle.candidates.proofs.Laws.Joining.{stands, one_same}
use Rattle.candidates.proofs.joining.is_one_text.Goals as goal

pub bounds-a-0 : goal.bounds-a-0
bounds-a-0 c = omega (arith, (stands c.requires).size)

pub returns-then-a-eq-SINGLE : goal.returns-then-a-eq-SINGLE
returns-then-a-eq-SINGLE c =
    c.eq.ensures ∙ same_by _ _ ∙ one_same c.args.a.now c.args.b.now c.if-a-eq-SINGLE.true
