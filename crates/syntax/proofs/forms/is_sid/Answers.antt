-- Every character passed is a letter or a digit, and so are all behind.
use Rattle.std.proofs.Common.{◌≡◌, ◌∙◌, ◌-◌, sym, length, take, drop, rules, tests}
use Rattle.std.proofs.lemmas.Iterator.{YieldsList-from_slice}
use Rattle.std.proofs.lemmas.Iterator.Search.{all_from_yields_List}
use Rattle.std.specs.List.{list_all}
use borrow.Author.Tests.{eqb-true, eqb-false}
use Rattle.syntax.specs.Forms.{is_alphanumeric}
use Rattle.syntax.proofs.Laws.Forms.{sid_none, sid_long}
use Rattle.syntax.proofs.Laws.Each.{sid_listed}
use Rattle.syntax.proofs.forms.is_sid.Goals.{then-is_empty-via-then-is_empty}
use Rattle.syntax.proofs.forms.is_sid.Goals.{then-is_empty-via-else-is_empty+then-cs-gt-SID}
use Rattle.syntax.proofs.forms.is_sid.Goals as goal

pub returns-then-is_empty : goal.returns-then-is_empty
returns-then-is_empty c =
    elim c.then-is_empty.branch [
      | then-is_empty-via-then-is_empty w ↦
          sym (sid_none c.args.cs.now (eqb-true _ _ (sym c.is_empty.ensures ∙ w.if-is_empty.true)))
      | then-is_empty-via-else-is_empty+then-cs-gt-SID w ↦ sym (sid_long c.args.cs.now w.if-cs-gt-SID.true)
    ]

pub returns : goal.returns
returns c =
    let i = c.past_eights.result in
    let each : c.all.result ≡ list_all is_alphanumeric (take (length c.args.cs.now - i) (drop i c.args.cs.now)) =
    all_from_yields_List is_alphanumeric _ _ c.all.result c.all.ensures.ran
    (YieldsList-from_slice _ c.iter.ensures.rest) (λ x b q k. search (rules, tests)) in
    each
    ∙ sid_listed c.args.cs.now (eqb-false _ _ (sym c.is_empty.ensures ∙ c.if-is_empty.false)) c.if-cs-gt-SID.false
    c.past_eights.ensures
