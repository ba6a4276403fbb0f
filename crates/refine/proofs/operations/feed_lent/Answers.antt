-- The policy's refusals; or what it comes to under the policy that was read.
use native.Mathlib.Omega.{arith}
use Rattle.held.specs.Held.{held}
use Rattle.policy.specs.Reading.{policy_rules}
use Rattle.decide.proofs.Laws.Operations.{handed_on, knows_lies}
use Rattle.refine.specs.Operations.{no_policy}
use Rattle.refine.proofs.Laws.Held.{sound_read, feeds_behind}
use Rattle.refine.proofs.operations.feed_lent.Goals as goal

pub read_policy-requires : goal.read_policy-requires
read_policy-requires c = c.requires.0

pub returns-in_err-read_policy : goal.returns-in_err-read_policy
returns-in_err-read_policy c = rw (handed_on _ c.from_residual.ensures.1) (no_policy c.requires.1 c.in_err-read_policy.ensures)

pub feed_held-requires : goal.feed_held-requires
feed_held-requires c =
    let known = c.in_ok-read_policy.ensures in
    let short = c.requires.0.bounded in
    let lies = knows_lies policy_rules held _ _ (omega arith) known in
    (record { policy = known.thing; lies = lies; sound = sound_read known.says }, c.requires.1)

pub returns : goal.returns
returns c =
    let known = c.in_ok-read_policy.ensures in
    let short = c.requires.0.bounded in
    let lies = knows_lies policy_rules held _ _ (omega arith) known in
    feeds_behind known.says c.requires.1 (c.feed_held.ensures known.thing lies (sound_read known.says))
