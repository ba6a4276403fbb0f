-- An absent key is wrong; one that is there is held where it stands.
use mathlib.Core.Path.{refl, sym, ap}
use Rattle.syntax.specs.Members.{required}
use Rattle.syntax.specs.RecordLayout.{key_name_of}
use Rattle.held.specs.Held.{held_text}
use Rattle.parts.proofs.Laws.Requests.Members.{placed_absent, placed_found, slot_holdable}
use Rattle.parts.proofs.Laws.Holding.{ends_alike}
use Rattle.parts.proofs.Laws.Formed.{ends_past, ends_wrong, none_holds}
use Rattle.policy.proofs.contexts.hold_key_name.Goals as goal

pub returns-then-v-eq0 : goal.returns-then-v-eq0
returns-then-v-eq0 c = λ x p. record { size = refl; said = ap (required key_name_of) (placed_absent p c.if-v-eq0.true) }

pub hold_name-requires : goal.hold_name-requires
hold_name-requires c = slot_holdable c.requires c.if-v-eq0.false

pub returns-in_err-past : goal.returns-in_err-past
returns-in_err-past c =
    λ x p. let f = placed_found p c.if-v-eq0.false in
    none_holds held_text c.args.run.now _ c.args.at (required key_name_of x) c.from_residual.ensures
    (ends_wrong held_text c.args.run.now _ c.args.at (required key_name_of x) _
    (ends_alike held_text c.args.run.now _ c.args.at _ _ _ (required key_name_of x) (sym (ap (required key_name_of) f.is))
    (c.hold_name.ensures f.what f.stop f.at)) c.in_err-past.was)

pub returns : goal.returns
returns c =
    λ x p. let f = placed_found p c.if-v-eq0.false in
    (ends_past held_text c.args.run.now _ c.args.at (required key_name_of x) _
    (ends_alike held_text c.args.run.now _ c.args.at _ _ _ (required key_name_of x) (sym (ap (required key_name_of) f.is))
    (c.hold_name.ensures f.what f.stop f.at)) c.in_ok-past.was).0
