-- Too long, broken or too deep; or whole, and no policy by its own members.
use mathlib.Core.Path.{sym}
use native.Mathlib.Omega.{arith}
use Rattle.policy.specs.Reading.{policy_rules}
use Rattle.policy.proofs.Laws.Reading.{says_long, says_broken, says_deep, policy_wrong, verdict_text, rooted}
use Rattle.policy.proofs.soon.judged.Goals as goal

pub returns-then-s-gt-POLICY : goal.returns-then-s-gt-POLICY
returns-then-s-gt-POLICY c = says_long policy_rules _ (omega (arith, c.if-s-gt-POLICY.true))

pub is_framed-requires : goal.is_framed-requires
is_framed-requires c = record { what = _; stop = _; is = rooted (sym c.in-Ok.ensures) c.root.ensures }

pub returns-else-is_framed : goal.returns-else-is_framed
returns-else-is_framed c =
    let whole = sym c.in-Ok.ensures in
    policy_wrong (omega (arith, c.if-s-gt-POLICY.false)) (verdict_text whole)
    (c.is_framed.ensures.not c.if-is_framed.false _ _ (rooted whole c.root.ensures))

pub returns-in-Err-Breaks : goal.returns-in-Err-Breaks
returns-in-Err-Breaks c =
    says_broken policy_rules _ _ (omega (arith, c.if-s-gt-POLICY.false)) c.in-Err-Breaks.ensures c.in-Err-Breaks.field-0-is

pub returns-in-Err-Deep : goal.returns-in-Err-Deep
returns-in-Err-Deep c =
    says_deep policy_rules _ (omega (arith, c.if-s-gt-POLICY.false)) c.in-Err-Deep.ensures c.in-Err-Deep.field-0-is
