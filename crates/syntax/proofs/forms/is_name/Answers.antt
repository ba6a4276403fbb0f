-- Every character passed belongs to a name, and so do all behind.
use Rattle.std.proofs.Common.{◌≡◌, ◌∙◌, ◌-◌, sym, length, take, drop, rules, tests, arith}
use Rattle.std.proofs.lemmas.Iterator.{YieldsList-from_slice}
use Rattle.std.proofs.lemmas.Iterator.Search.{all_from_yields_List}
use borrow.Author.Tests.{eqb-true, eqb-false}
use Rattle.std.specs.List.{list_all}
use Rattle.syntax.specs.Forms.{is_name_char}
use Rattle.syntax.proofs.Laws.Forms.{name_none}
use Rattle.syntax.proofs.Laws.Each.{name_listed}
use Rattle.syntax.proofs.forms.is_name.Goals as goal

pub returns-then-not-is_empty : goal.returns-then-not-is_empty
returns-then-not-is_empty c =
    let i = c.past_eights.result in
    let each : c.all.result ≡ list_all is_name_char (take (length c.args.cs.now - i) (drop i c.args.cs.now)) =
    all_from_yields_List is_name_char _ _ c.all.result c.all.ensures.ran (YieldsList-from_slice _ c.iter.ensures.rest)
    (λ x b q k. search (rules, tests)) in
    each
    ∙ name_listed c.args.cs.now (eqb-false _ _ (sym c.is_empty.ensures ∙ c.if-not-is_empty.true)) c.past_eights.ensures

pub returns-else-not-is_empty : goal.returns-else-not-is_empty
returns-else-not-is_empty c =
    let none = eqb-true _ _ (sym c.is_empty.ensures ∙ c.if-not-is_empty.false) in
    rw c.if-not-is_empty.false (sym (name_none c.args.cs.now 0 (omega (arith, none))))
