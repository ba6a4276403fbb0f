-- The first LF of what follows the eights passed, as the library looks for it.
use Rattle.std.proofs.Common.{◌≡◌, ◌-◌, length, take, drop, ◌∙◌, rules, tests}
use Rattle.std.specs.List.{position}
use Rattle.std.proofs.lemmas.Iterator.Search.{position_from_yields_List}
use Rattle.std.proofs.lemmas.Iterator.{YieldsList-from_slice}
use Rattle.chars.proofs.Laws.Lines.Found.{is_lf, behind_lf, behind_none}
use Rattle.chars.proofs.lines.line_end.Goals as goal

pub returns-in-Some : goal.returns-in-Some
returns-in-Some c =
    let i = c.past_eights-from.result in
    let found : c.position.result ≡ position is_lf (take (length c.args.s.now - i) (drop i c.args.s.now)) =
    position_from_yields_List is_lf _ _ c.position.result c.position.ensures.ran
    (YieldsList-from_slice _ c.iter.ensures.rest) (λ x b q k. search (rules, tests)) in
    behind_lf c.args.s.now i c.past_eights-from.ensures.0 found c.in-Some.is ∙ c.past_eights-from.ensures.1

pub returns-in-None : goal.returns-in-None
returns-in-None c =
    let i = c.past_eights-from.result in
    let found : c.position.result ≡ position is_lf (take (length c.args.s.now - i) (drop i c.args.s.now)) =
    position_from_yields_List is_lf _ _ c.position.result c.position.ensures.ran
    (YieldsList-from_slice _ c.iter.ensures.rest) (λ x b q k. search (rules, tests)) in
    behind_none c.args.s.now i c.past_eights-from.ensures.0 found c.in-None.is ∙ c.past_eights-from.ensures.1
