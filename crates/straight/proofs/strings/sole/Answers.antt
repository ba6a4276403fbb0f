-- What lies in the run is the string between the brackets, which are a list of it alone.
-- the call, the bracket before it, and where the function starts
use Rattle.syntax.specs.Members.{characters_of}
use Rattle.held.specs.Held.{held_text}
use Rattle.straight.proofs.Laws.Taking.{takes_past}
use Rattle.straight.proofs.Laws.Strings.{sole_taken}
use Rattle.straight.proofs.strings.sole.Goals as goal

pub returns : goal.returns
returns c =
    let opened = c.opened.ensures.found _ c.in_ok-i.was in
    sole_taken opened ((takes_past held_text 0 c.args.s.now c.args.run.now c.string.new.run
    c.in_ok-i.i c.args.at characters_of c.string.ensures c.in_ok-h.was)) (c.closed.ensures.found _ c.in_ok-end.was)
