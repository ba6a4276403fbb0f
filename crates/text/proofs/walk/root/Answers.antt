-- The value stands where the first white space ends.
use Rattle.text.proofs.Laws.Contents.{root_is}
use Rattle.text.proofs.walk.root.Goals as goal

pub returns : goal.returns
returns c = root_is _ _ c.requires c.space.ensures
