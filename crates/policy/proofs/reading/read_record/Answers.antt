-- Too long; in the usual form; or any other text.
use native.Mathlib.Omega.{arith}
use Rattle.syntax.specs.RecordLayout.{request_of}
use Rattle.held.specs.Held.{held_request}
use Rattle.policy.specs.Reading.{record_rules}
use Rattle.policy.proofs.Laws.Reading.{says_long, text_past, text_wrong, lent_again, record_known}
use Rattle.policy.proofs.reading.read_record.Goals as goal

pub returns-then-s-gt-RECORD : goal.returns-then-s-gt-RECORD
returns-then-s-gt-RECORD c = says_long record_rules _ (omega (arith, c.if-s-gt-RECORD.true))

pub record-h-requires : goal.record-h-requires
record-h-requires c = c.requires.bounded

pub judged_record-requires : goal.judged_record-requires
judged_record-requires c = (
  omega (arith, c.if-s-gt-RECORD.false),
  lent_again c.requires
      (text_wrong held_request request_of _ _ _ c.record-h.ensures c.in_default.is),
)

pub returns-in_default : goal.returns-in_default
returns-in_default c = c.judged_record.ensures

pub returns : goal.returns
returns c =
    let t = text_past held_request request_of _ _ _ c.record-h.ensures c.in-Some.is in
    record_known (omega (arith, c.if-s-gt-RECORD.false)) t.text t.laid
