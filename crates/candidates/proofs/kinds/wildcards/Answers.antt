-- What the filter keeps is counted.
use mathlib.Core.Path.{◌∙◌}
use lib.Dec.{eqb}
use borrow.Author.Tests.{tests}
use Rattle.std.proofs.Common.{rules}
use Rattle.std.proofs.lemmas.Iterator.{YieldsList-from_slice}
use Rattle.std.proofs.lemmas.Iterator.Consumers.{YieldsList-at, YieldsList-from_filter, count_from_yields_List}
use Rattle.syntax.specs.Policy.{star, any}
use Rattle.syntax.specs.Forms.{either}
use Rattle.candidates.proofs.Laws.Counting.{filtered}
use Rattle.candidates.proofs.kinds.wildcards.Goals as goal

pub returns : goal.returns
returns c =
    count_from_yields_List c.filter.result c.count.result c.count.ensures.ran
    (YieldsList-from_filter _ (λ y. either (eqb y star) (eqb y any))
    (YieldsList-at c.filter.ensures.source (YieldsList-from_slice c.args.ys.now c.iter.ensures.rest))
    c.filter.ensures.closure (λ x b q k. search (rules, tests)))
    ∙ filtered c.args.ys.now
