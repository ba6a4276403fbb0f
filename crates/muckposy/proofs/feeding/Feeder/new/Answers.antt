-- The room is empty at first.
use Rattle.std.proofs.Common.{refl}
use Rattle.refine.proofs.Laws.Held.{holding_fresh}
use Rattle.muckposy.proofs.feeding.Feeder.new.Goals as goal

pub invariant_of-result : goal.invariant_of-result
invariant_of-result c = record { holding = holding_fresh c.requires; size = refl }
