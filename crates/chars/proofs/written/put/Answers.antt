-- The part copied over is what several stores put.
use Rattle.chars.proofs.Laws.Putting.{puts_copied}
use Rattle.chars.proofs.written.put.Goals as goal

pub returns : goal.returns
returns c = puts_copied c.requires c.copy_from_slice.ensures.after
