-- The twin reads the value that stands there to its end, and cannot fail.
use mathlib.Core.Path.{◌∙◌}
use native.Mathlib.Omega.{arith}
use Rattle.text.proofs.Laws.Contents.{stands_inside, leaf_end}
use Rattle.text.proofs.walk.past_leaf.Goals as goal

pub value-requires : goal.value-requires
value-requires c = let h = stands_inside c.requires.is in omega arith

pub returns : goal.returns
returns c = λ t e p. c.unwrap_or.ensures ∙ leaf_end c.value.result _ c.value.ensures p
