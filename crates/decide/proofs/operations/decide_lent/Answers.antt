-- The policy is refused; or the record under the policy that was read.
use native.Mathlib.Omega.{arith}
use Rattle.held.specs.Held.{held}
use Rattle.policy.specs.Reading.{policy_rules}
use Rattle.decide.specs.Operations.{policy_refused}
use Rattle.decide.proofs.Laws.Operations.{handed_on, knows_lies, behind_refused}
use Rattle.decide.proofs.operations.decide_lent.Goals as goal

pub returns-in_err-read_policy : goal.returns-in_err-read_policy
returns-in_err-read_policy c =
    rw (handed_on _ c.from_residual.ensures.1) (policy_refused c.in_err-read_policy.ensures)

pub decide_record-requires : goal.decide_record-requires
decide_record-requires c =
    let known = c.in_ok-read_policy.ensures in
    record { thing = known.thing; lies = knows_lies policy_rules held _ _ (omega arith) known }

pub returns : goal.returns
returns c =
    let known = c.in_ok-read_policy.ensures in
    behind_refused known.says (c.decide_record.ensures _ (knows_lies policy_rules held _ _ (omega arith) known))
