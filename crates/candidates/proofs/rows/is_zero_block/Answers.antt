-- All numbers put together.
use mathlib.Core.Path.{ap, ◌∙◌}
use lib.Dec.{eqb}
use Rattle.candidates.proofs.Laws.Rows.{together}
use Rattle.candidates.proofs.rows.is_zero_block.Goals as goal

pub returns-then-block-eq-NUMBERS : goal.returns-then-block-eq-NUMBERS
returns-then-block-eq-NUMBERS c = ap (λ n. eqb n 0) c.joined.ensures ∙ together c.args.block.now 0

pub returns : goal.returns
returns c = ap (λ n. eqb n 0) c.joined-2.ensures ∙ together c.args.block.now 0
