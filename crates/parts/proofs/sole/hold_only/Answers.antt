-- An absent member is wrong; one that is there is held where it stands.
use mathlib.Core.Path.{sym, ap}
use Rattle.held.specs.Held.{held_text}
use Rattle.parts.proofs.Laws.Requests.Members.{placed_found, slot_holdable}
use Rattle.parts.proofs.Laws.Requests.Sole.{the_one}
use Rattle.parts.proofs.Laws.Holding.{ends_alike}
use Rattle.parts.proofs.Laws.Formed.{ends_past, ends_wrong, none_holds}
use Rattle.parts.proofs.sole.hold_only.Goals as goal

pub hold_sole-requires : goal.hold_sole-requires
hold_sole-requires c = slot_holdable c.requires c.if-v-eq0.false

pub returns-in_err-past : goal.returns-in_err-past
returns-in_err-past c =
    λ x p. let f = placed_found p c.if-v-eq0.false in
    none_holds held_text c.args.run.now _ c.args.at (the_one x) c.from_residual.ensures
    (ends_wrong held_text c.args.run.now _ c.args.at (the_one x) _
    (ends_alike held_text c.args.run.now _ c.args.at _ _ _ (the_one x) (sym (ap the_one f.is))
    (c.hold_sole.ensures f.what f.stop f.at)) c.in_err-past.was)

pub returns : goal.returns
returns c =
    λ x p. let f = placed_found p c.if-v-eq0.false in
    (ends_past held_text c.args.run.now _ c.args.at (the_one x) _
    (ends_alike held_text c.args.run.now _ c.args.at _ _ _ (the_one x) (sym (ap the_one f.is))
    (c.hold_sole.ensures f.what f.stop f.at)) c.in_ok-past.was).0
