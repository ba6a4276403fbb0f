-- Too long; in the usual form, with its limits judged on what is held; or any other text.
-- where the function starts
use mathlib.Core.Path.{sym, ◌∙◌}
use native.Mathlib.Omega.{arith}
use Rattle.policy.specs.Reading.{policy_rules}
use Rattle.policy.proofs.Laws.Reading.{says_long, lent_again, held_lies, policy_over, policy_known}
use Rattle.policy.proofs.reading.read_policy.Goals as goal

pub returns-then-s-gt-POLICY : goal.returns-then-s-gt-POLICY
returns-then-s-gt-POLICY c = says_long policy_rules _ (omega (arith, c.if-s-gt-POLICY.true))

pub policy-h-requires : goal.policy-h-requires
policy-h-requires c = c.requires.bounded

pub over_limit-requires : goal.over_limit-requires
over_limit-requires c = record { thing = _; lies = held_lies c.requires.bounded c.in-Ok.ensures.laid }

pub shape_of-run-then-over_limit : goal.shape_of-run-then-over_limit
shape_of-run-then-over_limit c = c.in-Ok.ensures.laid.extends.size

pub returns-then-over_limit : goal.returns-then-over_limit
returns-then-over_limit c = let t = c.in-Ok.ensures in
    policy_over (omega (arith, c.if-s-gt-POLICY.false)) t.text _ t.laid.said
    (sym (c.over_limit.ensures _ (held_lies c.requires.bounded t.laid)) ∙ c.if-over_limit.true)

pub judged_policy-requires : goal.judged_policy-requires
judged_policy-requires c = let left = c.in-Err.ensures in
    (omega (arith, c.if-s-gt-POLICY.false), (lent_again c.requires left.0, left.1))

pub shape_of-run-else-over_limit : goal.shape_of-run-else-over_limit
shape_of-run-else-over_limit c = c.in-Ok.ensures.laid.extends.size

pub returns-else-over_limit : goal.returns-else-over_limit
returns-else-over_limit c = let t = c.in-Ok.ensures in
    policy_known (omega (arith, c.if-s-gt-POLICY.false)) t.text t.laid
    (sym (c.over_limit.ensures _ (held_lies c.requires.bounded t.laid)) ∙ c.if-over_limit.false)

pub returns-in-Err : goal.returns-in-Err
returns-in-Err c = c.judged_policy.ensures
