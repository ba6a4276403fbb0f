-- An absent value is wrong; one that is there is held where it stands.
use mathlib.Core.Path.{refl, sym, ap}
use Rattle.syntax.specs.Members.{Slot, then}
use Rattle.held.specs.Held.{held_value}
use Rattle.parts.specs.Requests.{typed_as}
use Rattle.parts.proofs.Laws.Formed.{then_wrong}
use Rattle.parts.proofs.Laws.Requests.Members.{placed_found, slot_holdable}
use Rattle.parts.proofs.Laws.Requests.Sole.{the_one, one_absent}
use Rattle.parts.proofs.Laws.Holding.{ends_alike}
use Rattle.parts.proofs.Laws.Formed.{ends_past, ends_wrong, none_holds}
use Rattle.policy.proofs.contexts.hold_typed.Goals as goal

pub returns-then-v-eq0 : goal.returns-then-v-eq0
returns-then-v-eq0 c = λ x p. record { size = refl; said = then_wrong _ (one_absent p c.if-v-eq0.true) }

pub hold_value-requires : goal.hold_value-requires
hold_value-requires c = slot_holdable c.requires c.if-v-eq0.false

pub returns-in_err-past : goal.returns-in_err-past
returns-in_err-past c =
    λ x p. let f = placed_found p c.if-v-eq0.false in
    none_holds held_value c.args.run.now _ c.args.at (then (the_one x) (typed_as c.args.kind)) c.from_residual.ensures
    (ends_wrong held_value c.args.run.now _ c.args.at (then (the_one x) (typed_as c.args.kind)) _
    (ends_alike held_value c.args.run.now _ c.args.at _ _ _ (then (the_one x) (typed_as c.args.kind)) (sym (ap (λ (y : Slot). then (the_one y) (typed_as c.args.kind)) f.is))
    (c.hold_value.ensures f.what f.stop f.at)) c.in_err-past.was)

pub returns : goal.returns
returns c =
    λ x p. let f = placed_found p c.if-v-eq0.false in
    (ends_past held_value c.args.run.now _ c.args.at (then (the_one x) (typed_as c.args.kind)) _
    (ends_alike held_value c.args.run.now _ c.args.at _ _ _ (then (the_one x) (typed_as c.args.kind)) (sym (ap (λ (y : Slot). then (the_one y) (typed_as c.args.kind)) f.is))
    (c.hold_value.ensures f.what f.stop f.at)) c.in_ok-past.was).0
