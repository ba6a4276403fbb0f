-- The record is refused, or decided under the policy that lies there.
-- what was read of the record, and that it lies in the run
use native.Mathlib.Omega.{arith}
use Rattle.held.specs.Held.{held_request}
use Rattle.policy.specs.Reading.{record_rules}
use Rattle.decide.specs.Operations.{refuses}
use Rattle.decide.proofs.Laws.Operations.{handed_on, knows_lies, record_decided}
use Rattle.decide.proofs.operations.decide_asked.Goals as goal

pub returns-in_err-read_record : goal.returns-in_err-read_record
returns-in_err-read_record c =
    λ p l. rw (handed_on _ c.from_residual.ensures.1) (refuses c.in_err-read_record.ensures)

pub decide-requires : goal.decide-requires
decide-requires c =
    let known = c.in_ok-read_record.ensures in
    let short = c.requires.1.bounded in
    (c.requires.0, record { thing = known.thing; lies = knows_lies record_rules held_request _ _ (omega arith) known })

pub returns : goal.returns
returns c =
    let known = c.in_ok-read_record.ensures in
    let short = c.requires.1.bounded in
    λ p l. record_decided known.says
    (c.decide.ensures p _ l (knows_lies record_rules held_request _ _ (omega arith) known))
