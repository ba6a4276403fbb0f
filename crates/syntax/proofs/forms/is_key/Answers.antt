-- Every character belongs to a key.
use Rattle.std.proofs.Common.{◌≡◌, ◌∙◌, sym, rules, tests}
use Rattle.std.proofs.lemmas.Iterator.{YieldsList-from_slice}
use Rattle.std.proofs.lemmas.Iterator.Search.{all_from_yields_List}
use borrow.Author.Tests.{eqb-true, eqb-false}
use Rattle.std.specs.List.{list_all}
use Rattle.syntax.specs.Forms.{is_key_char}
use Rattle.syntax.proofs.Laws.Forms.{key_none, key_listed}
use Rattle.syntax.proofs.forms.is_key.Goals as goal

pub returns-then-not-is_empty : goal.returns-then-not-is_empty
returns-then-not-is_empty c =
    let each : c.all.result ≡ list_all is_key_char c.args.cs.now =
    all_from_yields_List is_key_char _ _ c.all.result c.all.ensures.ran (YieldsList-from_slice _ c.iter.ensures.rest)
    (λ x b q k. search (rules, tests)) in
    each ∙ key_listed c.args.cs.now (eqb-false _ _ (sym c.is_empty.ensures ∙ c.if-not-is_empty.true))

pub returns-else-not-is_empty : goal.returns-else-not-is_empty
returns-else-not-is_empty c =
    rw c.if-not-is_empty.false
    (sym (key_none c.args.cs.now (eqb-true _ _ (sym c.is_empty.ensures ∙ c.if-not-is_empty.false))))
