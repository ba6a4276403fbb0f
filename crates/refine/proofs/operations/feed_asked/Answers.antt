-- The record is refused; or it is fed. Either way the room is still the policy's.
use native.Mathlib.Omega.{arith}
use Rattle.held.specs.Held.{held_request}
use Rattle.policy.specs.Reading.{record_rules}
use Rattle.decide.proofs.Laws.Operations.{handed_on, knows_lies}
use Rattle.refine.specs.Sound.{no_record}
use Rattle.refine.proofs.Laws.Held.{short_read, record_fed, holding_fed}
use Rattle.refine.proofs.operations.feed_asked.Goals as goal

pub read_record-requires : goal.read_record-requires
read_record-requires c = c.requires.1

pub feed_request-requires : goal.feed_request-requires
feed_request-requires c =
    let asked = c.in_ok-read_record.ensures in
    let lies = knows_lies record_rules held_request _ _ (omega (arith, c.requires.1.bounded, c.read_record.auto.run)) asked in
    (c.requires.0, record { request = asked.thing; lies = lies; short = short_read asked.says })

pub returns : goal.returns
returns c =
    let asked = c.in_ok-read_record.ensures in
    let lies = knows_lies record_rules held_request _ _ (omega (arith, c.requires.1.bounded, c.read_record.auto.run)) asked in
    let short = short_read asked.says in
    (holding_fed c.requires.0 (record_fed c.requires.0.content asked.says (c.feed_request.ensures c.requires.0.held_sound.policy _ c.requires.0.held_sound.lies lies c.requires.0.held_sound.sound short c.requires.0.content)) c.feed_request.auto.room, λ p l s f. record_fed f asked.says (c.feed_request.ensures p _ l lies s short f))

pub returns-in_err-read_record : goal.returns-in_err-read_record
returns-in_err-read_record c =
    let no = c.in_err-read_record.ensures in
    (c.requires.0, λ p l s f. rw (handed_on _ c.from_residual.ensures.1) (no_record f no))
