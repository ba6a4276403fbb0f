-- Block by block.
use mathlib.Core.Path.{◌∙◌}
use lib.ListN.{length}
use native.Mathlib.Omega.{arith}
use borrow.Author.Tests.{tests}
use Rattle.std.proofs.Common.{rules}
use Rattle.std.proofs.lemmas.Iterator.Search.{all_from_yields_List}
use Rattle.candidates.specs.Rows.{row_numbers, is_zero}
use Rattle.candidates.proofs.Laws.Blocks.{blocks, blocks_zero}
use Rattle.candidates.proofs.rows.is_zero.Goals as goal

pub returns : goal.returns
returns c =
    all_from_yields_List is_zero _ _ _ c.all.ensures.ran
    (blocks row_numbers c.args.row.now (omega arith) c.chunks.ensures.size c.chunks.ensures.rest)
    (λ x b q k. search (rules, tests))
    ∙ blocks_zero (length c.args.row.now) row_numbers c.args.row.now (omega arith) (omega arith)
