-- A run of another length is refused untouched; otherwise the numbers are those of reading's answer.
use Rattle.std.specs.Prelude.{refl}
use Rattle.held.specs.Held.{held}
use Rattle.policy.specs.Reading.{policy_rules}
use Rattle.policy_probe.specs.Numbers.{unfit}
use Rattle.policy_probe.proofs.Laws.Numbers.{tells}
use Rattle.policy_probe.proofs.policy_probe_policy.Goals as goal

pub returns-then-run-ne-RUN : goal.returns-then-run-ne-RUN
returns-then-run-ne-RUN c = unfit c.if-run-ne-RUN.true refl

pub returns : goal.returns
returns c =
    tells policy_rules held _ _ _ c.read_policy.result c.if-run-ne-RUN.false c.read_policy.ensures c.numbers.ensures
