-- The policy is refused; or the one that was read is handed out.
use native.Mathlib.Omega.{arith}
use Rattle.held.specs.Held.{held}
use Rattle.policy.specs.Reading.{policy_rules}
use Rattle.decide.proofs.Laws.Operations.{handed_on, knows_lies}
use Rattle.restate.specs.Operations.{policy_refused, restated}
use Rattle.restate.proofs.operations.restate_lent.Goals as goal

pub returns-in_err-n : goal.returns-in_err-n
returns-in_err-n c = rw (handed_on _ c.from_residual.ensures.1) (policy_refused c.in_err-n.ensures)

pub hand-requires : goal.hand-requires
hand-requires c =
    let known = c.in_ok-n.ensures in
    record { thing = known.thing; lies = knows_lies policy_rules held _ _ (omega arith) known }

pub returns : goal.returns
returns c =
    let known = c.in_ok-n.ensures in
    restated known.says (c.hand.ensures known.thing (knows_lies policy_rules held _ _ (omega arith) known))
