-- The text is held and tested where it lies.
-- the call, and where the function starts
use Rattle.syntax.specs.Forms.{is_sid}
use Rattle.syntax.specs.Members.{characters_of}
use Rattle.held.specs.Held.{held_text}
use Rattle.straight.proofs.Laws.Taking.{takes_past}
use Rattle.straight.proofs.Laws.Texts.{text_formed}
use Rattle.straight.proofs.Laws.Entries.{sid_is}
use Rattle.straight.proofs.entries.sid.Goals as goal

pub returns : goal.returns
returns c =
    text_formed c.requires ((takes_past held_text 0 c.args.s.now c.args.run.now c.string.new.run
    c.args.v c.args.at characters_of c.string.ensures c.in_ok-h.was)) is_sid (sid_is ((takes_past held_text 0 c.args.s.now c.args.run.now c.string.new.run
    c.args.v c.args.at characters_of c.string.ensures c.in_ok-h.was)).tree) c.is_sid.ensures
    c.if-not-is_sid.false
