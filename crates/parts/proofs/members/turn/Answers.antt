-- The first word that the name spells.
use mathlib.Core.Path.{◌≡◌, ◌∙◌}
use Rattle.std.proofs.Common.{rules}
use Rattle.std.proofs.lemmas.Iterator.{YieldsList-from_slice}
use Rattle.std.proofs.lemmas.Iterator.Search.{position_from_yields_List}
use Rattle.std.specs.List.{position}
use Rattle.parts.proofs.Laws.Slots.{spells, turn_at, turn_no}
use Rattle.parts.proofs.members.turn.Goals as goal

pub returns-in_err-k : goal.returns-in_err-k
returns-in_err-k c =
    let first : c.position.result ≡ position (spells c.args.raw.now) c.args.words.now =
    position_from_yields_List (spells c.args.raw.now) _ _ _ c.position.ensures.ran (YieldsList-from_slice c.args.words.now cc)
    (λ x b q k. search rules) in
    c.from_residual.ensures ∙ turn_no c.args.raw.now c.args.words.now first c.in_err-k.was

pub returns : goal.returns
returns c =
    let first : c.position.result ≡ position (spells c.args.raw.now) c.args.words.now =
    position_from_yields_List (spells c.args.raw.now) _ _ _ c.position.ensures.ran (YieldsList-from_slice c.args.words.now cc)
    (λ x b q k. search rules) in
    turn_at c.args.raw.now c.args.words.now first c.in_ok-k.was
