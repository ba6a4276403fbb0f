-- An absent member is laid as no entries; one that is there is held where it stands.
use mathlib.Core.Path.{sym, ap}
use mathlib.Core.List.{[]}
use native.Mathlib.Omega.{arith}
use Rattle.syntax.specs.Members.{optional}
use Rattle.syntax.specs.RecordLayout.{contexts_of}
use Rattle.held.specs.Held.{held_context, held_each, held_list}
use Rattle.parts.proofs.Laws.Requests.Members.{placed_absent, placed_found, slot_holdable}
use Rattle.parts.proofs.Laws.Requests.Laying.{extends_one}
use Rattle.parts.proofs.Laws.Holding.{ends_alike}
use Rattle.parts.proofs.Laws.Formed.{ends_past, ends_wrong, none_holds}
use Rattle.policy.proofs.contexts.hold_contexts.Goals as goal

pub bounds-run-at : goal.bounds-run-at
bounds-run-at c = omega (arith, c.requires.roomy.room)

pub overflow_add-result : goal.overflow_add-result
overflow_add-result c = omega (arith, c.requires.roomy.room, c.requires.roomy.bounded)

pub returns-then-v-eq0 : goal.returns-then-v-eq0
unfolding held_each
returns-then-v-eq0 c =
    λ x p. record {
      thing = [];
      said = ap (optional [] contexts_of) (placed_absent p c.if-v-eq0.true);
      extends = extends_one c.args.run.now c.args.at 0 (omega (arith, c.requires.roomy.room));
    }

pub hold_listed-requires : goal.hold_listed-requires
hold_listed-requires c = slot_holdable c.requires c.if-v-eq0.false

pub returns-in_err-past : goal.returns-in_err-past
returns-in_err-past c =
    λ x p. let f = placed_found p c.if-v-eq0.false in
    none_holds (held_list held_context) c.args.run.now _ c.args.at (optional [] contexts_of x) c.from_residual.ensures
    (ends_wrong (held_list held_context) c.args.run.now _ c.args.at (optional [] contexts_of x) _
    (ends_alike (held_list held_context) c.args.run.now _ c.args.at _ _ _ (optional [] contexts_of x) (sym (ap (optional [] contexts_of) f.is))
    (c.hold_listed.ensures f.what f.stop f.at)) c.in_err-past.was)

pub returns : goal.returns
returns c =
    λ x p. let f = placed_found p c.if-v-eq0.false in
    (ends_past (held_list held_context) c.args.run.now _ c.args.at (optional [] contexts_of x) _
    (ends_alike (held_list held_context) c.args.run.now _ c.args.at _ _ _ (optional [] contexts_of x) (sym (ap (optional [] contexts_of) f.is))
    (c.hold_listed.ensures f.what f.stop f.at)) c.in_ok-past.was).0
