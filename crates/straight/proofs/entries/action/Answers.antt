-- The text is held, tested where it lies, and its wildcards are told apart.
-- the call, and where the function starts
use mathlib.Core.List.{map}
use lib.ListN.{length-map}
use Rattle.syntax.specs.Forms.{is_action, wildcard}
use Rattle.syntax.specs.Members.{characters_of}
use Rattle.held.specs.Held.{held_text}
use Rattle.straight.proofs.Laws.Taking.{takes_past}
use Rattle.straight.proofs.Laws.Texts.{text_rewritten}
use Rattle.straight.proofs.Laws.Entries.{action_is}
use Rattle.straight.proofs.entries.action.Goals as goal

pub returns : goal.returns
returns c =
    text_rewritten c.requires ((takes_past held_text 0 c.args.s.now c.args.run.now c.string.new.run
    c.args.v c.args.at characters_of c.string.ensures c.in_ok-h.was)) is_action (map wildcard) (λ cs. length-map cs wildcard)
    (action_is ((takes_past held_text 0 c.args.s.now c.args.run.now c.string.new.run
    c.args.v c.args.at characters_of c.string.ensures c.in_ok-h.was)).tree) c.is_action.ensures
    c.if-not-is_action.false _ c.wildcards.ensures
