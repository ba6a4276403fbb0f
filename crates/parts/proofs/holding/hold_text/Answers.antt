-- What hold_string says, without the end.
use Rattle.syntax.specs.Members.{characters_of}
use Rattle.held.specs.Held.{held_text}
use Rattle.parts.proofs.Laws.Formed.{ends_past, ends_wrong, none_holds}
use Rattle.parts.proofs.holding.hold_text.Goals as goal

pub returns-in_err-past : goal.returns-in_err-past
returns-in_err-past c =
    λ t e p. none_holds held_text c.args.run.now _ c.args.at (characters_of t) c.from_residual.ensures
    (ends_wrong held_text c.args.run.now _ c.args.at (characters_of t) _ (c.hold_string.ensures t e p) c.in_err-past.was)

pub returns : goal.returns
returns c =
    λ t e p. (ends_past held_text c.args.run.now _ c.args.at (characters_of t) _ (c.hold_string.ensures t e p)
    c.in_ok-past.was).0
