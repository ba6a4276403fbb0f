-- No pair of characters differs in small letters.
use Rattle.std.proofs.Common.{◌≡◌, ◌∙◌, sym, rules, tests}
use Rattle.std.specs.List.{list_all, zip}
use Rattle.std.proofs.lemmas.Iterator.{YieldsList-from_slice, YieldsList-from_zip}
use Rattle.std.proofs.lemmas.Iterator.Search.{all_from_yields_List}
use borrow.Author.Tests.{ne_eqb}
use Rattle.syntax.proofs.Laws.Same.{same_lower, keys_listed, key_lengths}
use Rattle.syntax.proofs.forms.same_key.Goals as goal

pub returns-then-a-b : goal.returns-then-a-b
returns-then-a-b c =
    let each : c.all.result ≡ list_all same_lower (zip c.args.a.now c.args.b.now) =
    all_from_yields_List same_lower c.all.new.self _ c.all.result c.all.ensures.ran
    (YieldsList-from_zip (YieldsList-from_slice _ (search rules)) (YieldsList-from_slice _ (search rules))) (λ x b q k. search (rules, tests)) in
    each ∙ keys_listed c.args.a.now c.args.b.now c.if-a-b.true

pub returns-else-a-b : goal.returns-else-a-b
returns-else-a-b c = ne_eqb _ _ c.if-a-b.false ∙ sym (key_lengths c.args.a.now c.args.b.now c.if-a-b.false)
