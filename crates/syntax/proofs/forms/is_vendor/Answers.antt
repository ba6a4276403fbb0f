-- The first character that belongs to no vendor is the colon, or there is no vendor.
use Rattle.std.proofs.Common.{◌≡◌, ◌∙◌, rules, tests, arith}
use Rattle.std.proofs.lemmas.Iterator.{YieldsList-from_slice}
use Rattle.std.proofs.lemmas.Iterator.Search.{position_from_yields_List}
use Rattle.std.specs.List.{position}
use Rattle.syntax.proofs.Laws.Each.{no_vendor, vendor_over, vendor_zero, vendor_other, vendor_name}
use Rattle.syntax.proofs.forms.is_vendor.Goals.{then-end-eq0-via-then-end-eq0}
use Rattle.syntax.proofs.forms.is_vendor.Goals.{then-end-eq0-via-else-end-eq0+then-cs-end-ne-COLON}
use Rattle.syntax.proofs.forms.is_vendor.Goals as goal

pub returns-in_default : goal.returns-in_default
returns-in_default c =
    let found : c.position.result ≡ position no_vendor c.args.cs.now =
    position_from_yields_List no_vendor _ _ c.position.result c.position.ensures.ran
    (YieldsList-from_slice _ c.iter.ensures.rest) (λ x b q k. search (rules, tests)) in
    vendor_over c.args.cs.now found c.in_default.is

pub returns-then-end-eq0 : goal.returns-then-end-eq0
returns-then-end-eq0 c =
    let found : c.position.result ≡ position no_vendor c.args.cs.now =
    position_from_yields_List no_vendor _ _ c.position.result c.position.ensures.ran
    (YieldsList-from_slice _ c.iter.ensures.rest) (λ x b q k. search (rules, tests)) in
    elim c.then-end-eq0.branch [
      | then-end-eq0-via-then-end-eq0 w ↦ vendor_zero c.args.cs.now found c.in-Some.is w.if-end-eq0.true
      | then-end-eq0-via-else-end-eq0+then-cs-end-ne-COLON w ↦
          vendor_other c.args.cs.now found c.in-Some.is (omega arith) w.if-cs-end-ne-COLON.true
    ]

pub returns : goal.returns
returns c =
    let found : c.position.result ≡ position no_vendor c.args.cs.now =
    position_from_yields_List no_vendor _ _ c.position.result c.position.ensures.ran
    (YieldsList-from_slice _ c.iter.ensures.rest) (λ x b q k. search (rules, tests)) in
    c.is_name.ensures ∙ vendor_name c.args.cs.now found c.in-Some.is (omega arith) c.if-cs-end-ne-COLON.false
