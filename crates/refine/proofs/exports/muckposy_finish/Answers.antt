-- The numbers are those of what the operation answers.
use Rattle.refine.proofs.Laws.Exports.{replying}
use Rattle.refine.proofs.exports.muckposy_finish.Goals as goal

pub returns : goal.returns
returns c =
    replying _ _ c.finish.ensures c.of_written.ensures
