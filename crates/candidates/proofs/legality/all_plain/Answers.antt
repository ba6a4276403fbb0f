-- As the library tests each.
use mathlib.Core.Path.{◌∙◌}
use borrow.Author.Tests.{tests}
use Rattle.std.proofs.Common.{rules}
use Rattle.std.proofs.lemmas.Iterator.{YieldsList-from_slice}
use Rattle.std.proofs.lemmas.Iterator.Search.{all_from_yields_List}
use Rattle.candidates.specs.Entries.{is_plain}
use Rattle.candidates.specs.Places.{place_is}
use Rattle.candidates.proofs.Laws.Chains.{all_by}
use Rattle.candidates.proofs.legality.all_plain.Goals as goal

pub returns : goal.returns
returns c =
    all_from_yields_List (is_plain (place_is c.args.place)) _ _ _ c.all.ensures.ran
    (YieldsList-from_slice c.args.cs.now (cc)) (λ x b q k. search (rules, tests)) ∙ all_by _ _
