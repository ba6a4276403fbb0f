-- The text's own candidate, joined to what the row held.
use Rattle.candidates.proofs.Laws.JoiningLeast.{least_short, least_texted}
use Rattle.candidates.proofs.joining.charge_wild.Goals as goal

pub join_wild-requires : goal.join_wild-requires
join_wild-requires c = (c.requires.1, least_texted _ c.requires.0 _ _ c.put_least.ensures)

pub returns : goal.returns
returns c =
    λ x tx f. c.join_wild.ensures x _ tx (least_short _ c.requires.0 _ c.args.ys.now) f c.put_least.ensures
