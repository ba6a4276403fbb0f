-- What was read is sound.
use Rattle.std.proofs.Common.{arith}
use Rattle.held.specs.Held.{held}
use Rattle.policy.specs.Reading.{policy_rules}
use Rattle.decide.proofs.Laws.Operations.{knows_lies}
use Rattle.refine.proofs.Laws.Held.{sound_read}
use Rattle.muckposy.proofs.run.Goals as goal

pub refine_log-requires : goal.refine_log-requires
refine_log-requires g c =
    let known = c.in-Ok.ensures in
    let lies = knows_lies policy_rules held _ _ (omega arith) known in
    record { policy = known.thing; lies = lies; sound = sound_read known.says }
