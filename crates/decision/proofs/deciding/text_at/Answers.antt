-- The characters lie where the length before them says.
use Rattle.held.proofs.Laws.Places.{texted}
use Rattle.decision.proofs.deciding.text_at.Goals as goal

pub slice_bounds-result-end : goal.slice_bounds-result-end
slice_bounds-result-end c = (texted c.requires.thing c.requires.lies).ends

pub returns : goal.returns
returns c = λ x l. (texted x l).is
