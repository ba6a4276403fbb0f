-- The text is held, its escapes resolved, and tested where it lies.
-- the call, and where the function starts
use mathlib.Core.Bool.{true}
use Rattle.syntax.specs.Forms.{is_resource, symbols_of}
use Rattle.syntax.specs.Members.{then, characters_of}
use Rattle.held.specs.Held.{held_text}
use Rattle.straight.proofs.Laws.Taking.{takes_past}
use Rattle.straight.proofs.Laws.Texts.{text_formed}
use Rattle.straight.proofs.Laws.Entries.{resource_is}
use Rattle.straight.proofs.entries.resource.Goals as goal

pub returns : goal.returns
returns c =
    text_formed c.requires ((takes_past held_text 0 c.args.s.now c.args.run.now c.escaped.new.run
    c.args.v c.args.at (λ u. then (characters_of u) (symbols_of true)) c.escaped.ensures
    c.in_ok-h.was)) is_resource (resource_is ((takes_past held_text 0 c.args.s.now c.args.run.now c.escaped.new.run
    c.args.v c.args.at (λ u. then (characters_of u) (symbols_of true)) c.escaped.ensures
    c.in_ok-h.was)).tree)
    c.is_resource.ensures c.if-not-is_resource.false
