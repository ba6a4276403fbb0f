-- A run of another length is refused untouched; otherwise the numbers are those of reading's answer.
use Rattle.std.specs.Prelude.{refl}
use Rattle.held.specs.Held.{held_request}
use Rattle.policy.specs.Reading.{record_rules}
use Rattle.policy_probe.specs.Numbers.{unfit}
use Rattle.policy_probe.proofs.Laws.Numbers.{tells}
use Rattle.policy_probe.proofs.policy_probe_record.Goals as goal

pub returns-then-run-ne-RUN : goal.returns-then-run-ne-RUN
returns-then-run-ne-RUN c = unfit c.if-run-ne-RUN.true refl

pub returns : goal.returns
returns c =
    tells record_rules held_request _ _ _ c.read_record.result c.if-run-ne-RUN.false c.read_record.ensures c.numbers.ensures
