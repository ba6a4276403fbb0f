-- What has no policy's members makes none; of an object with them each member is held.
use mathlib.Core.Path.{refl}
use Rattle.parts.proofs.Laws.Several.{object_stands}
use Rattle.policy.proofs.Laws.StatementsPolicy.{policy_holdable, policy_alike}
use Rattle.policy.proofs.statements.hold_policy.Goals as goal

pub is_framed-requires : goal.is_framed-requires
is_framed-requires c = record { what = c.requires.what; stop = c.requires.stop; is = c.requires.is }

pub returns-then-not-is_framed : goal.returns-then-not-is_framed
returns-then-not-is_framed c = λ t e p.
    record { size = refl; said = c.is_framed.ensures.not c.if-not-is_framed.true t e p }

pub hold_members-requires : goal.hold_members-requires
hold_members-requires c = policy_holdable c.requires (c.is_framed.ensures.object c.if-not-is_framed.false _ _ c.requires.is)

pub returns : goal.returns
returns c = λ t e p.
    let yes = c.is_framed.ensures.object c.if-not-is_framed.false t e p in
    policy_alike c.args.run.now _ c.hold_members.result t yes (c.hold_members.ensures _ _ (object_stands p yes))
