-- The members are found in one walk and held one behind the other.
use mathlib.Core.Path.{refl, ◌∙◌}
use Rattle.syntax.specs.Words.{action_names_word, resource_arns_word, context_entries_word}
use Rattle.syntax.specs.Members.{slot}
use Rattle.syntax.specs.RecordLayout.{request_of}
use Rattle.held.specs.Held.{held_text, held_request}
use Rattle.parts.proofs.Laws.Formed.{holds_past}
use Rattle.parts.proofs.Laws.Requests.Members.{refused, holds_as}
use Rattle.parts.proofs.Laws.Requests.Objects.{is_object_lem, object_stands}
use Rattle.policy.proofs.Laws.Requests.Record.{not_request, action_in, resource_in, request_within, action_wrong}
use Rattle.policy.proofs.Laws.Requests.Record.{resource_wrong, request_parts, request_apart}
use Rattle.policy.proofs.Laws.Requests.Record.{request_held}
use Rattle.policy.proofs.Laws.Requests.Paid.{action_room, resource_room, contexts_room}
use Rattle.parts.proofs.Laws.Kinds.{object_told}
use Rattle.parts.proofs.Laws.Formed.{none_holds}
use Rattle.policy.proofs.requests.hold_request.Goals as goal

pub returns-then-ne : goal.returns-then-ne
returns-then-ne c =
    λ t e p. record {
      size = refl;
      said = not_request t (object_told c.kind_at.ensures c.ne.ensures c.if-ne.true t e p);
    }

pub slots-places-requires : goal.slots-places-requires
slots-places-requires c =
    let o = object_told c.kind_at.ensures c.ne.ensures c.if-ne.false _ _ c.requires.is in
    record { what = _; stop = _; is = object_stands c.requires.is (is_object_lem _ o) }

pub returns-then-places-eq0 : goal.returns-then-places-eq0
returns-then-places-eq0 c =
    λ t e p. let o = object_told c.kind_at.ensures c.ne.ensures c.if-ne.false t e p in
    record {
      size = refl;
      said = request_apart t p o c.slots-places.result c.slots-places.ensures
          c.if-places-eq0.true;
    }

pub hold_action_name-requires : goal.hold_action_name-requires
hold_action_name-requires c =
    let m = ((let o = object_told c.kind_at.ensures c.ne.ensures c.if-ne.false _ _ c.requires.is in
    request_parts _ c.requires.is o c.slots-places.result c.slots-places.ensures c.if-places-eq0.false)) in
    record { what = _; is = m.action; roomy = action_room _ c.requires.roomy m.members m.is }

pub returns-in_err-p : goal.returns-in_err-p
returns-in_err-p c =
    λ t e p.
    none_holds held_request c.args.run.now _ 0 (request_of t) c.from_residual.ensures
    (let m = (let o = object_told c.kind_at.ensures c.ne.ensures c.if-ne.false t e p in
    request_parts t p o c.slots-places.result c.slots-places.ensures c.if-places-eq0.false) in
    let x = slot action_names_word m.members in
    refused held_text _ _ 0 (action_in x) _ (c.hold_action_name.ensures x m.action)
    c.in_err-p.was
    (λ z. m.said ∙ action_wrong x (slot resource_arns_word m.members) (slot context_entries_word m.members) z))

pub hold_resource_arn-requires : goal.hold_resource_arn-requires
hold_resource_arn-requires c =
    let m = ((let o = object_told c.kind_at.ensures c.ne.ensures c.if-ne.false _ _ c.requires.is in
    request_parts _ c.requires.is o c.slots-places.result c.slots-places.ensures c.if-places-eq0.false)) in
    record {
      what = _;
      is = m.resource;
      roomy = resource_room _ c.requires.roomy m.members m.is ((holds_past held_text c.args.run.now c.hold_action_name.new.run 0
          (action_in (slot action_names_word m.members)) (c.hold_action_name.ensures _ m.action) c.in_ok-p.was));
    }

pub shape_of-run-in_err-q : goal.shape_of-run-in_err-q
shape_of-run-in_err-q c =
    c.hold_resource_arn.auto.run ∙ c.hold_action_name.auto.run

pub returns-in_err-q : goal.returns-in_err-q
returns-in_err-q c =
    λ t e p.
    none_holds held_request c.args.run.now _ 0 (request_of t) c.from_residual-in_err-q.ensures
    (let m = (let o = object_told c.kind_at.ensures c.ne.ensures c.if-ne.false t e p in
    request_parts t p o c.slots-places.result c.slots-places.ensures c.if-places-eq0.false) in
    let x = slot action_names_word m.members in
    let y = slot resource_arns_word m.members in
    let w = refused held_text c.hold_action_name.new.run
    c.hold_resource_arn.new.run c.in_ok-p.p (resource_in y) (request_of t)
    (c.hold_resource_arn.ensures y m.resource) c.in_err-q.was (λ z. m.said
    ∙ resource_wrong x y (slot context_entries_word m.members) z) in
    record { size = w.size ∙ c.hold_action_name.auto.run; said = w.said })

pub hold_contexts-requires : goal.hold_contexts-requires
hold_contexts-requires c =
    let m = ((let o = object_told c.kind_at.ensures c.ne.ensures c.if-ne.false _ _ c.requires.is in
    request_parts _ c.requires.is o c.slots-places.result c.slots-places.ensures c.if-places-eq0.false)) in
    record {
      what = _;
      is = m.context;
      roomy = contexts_room _ c.requires.roomy m.members m.is
          ((holds_past held_text c.args.run.now c.hold_action_name.new.run 0
          (action_in (slot action_names_word m.members)) (c.hold_action_name.ensures _ m.action) c.in_ok-p.was)) ((holds_past held_text c.hold_action_name.new.run c.hold_resource_arn.new.run
          c.in_ok-p.p (resource_in (slot resource_arns_word m.members))
          (c.hold_resource_arn.ensures _ m.resource) c.in_ok-q.was));
    }

pub shape_of-run : goal.shape_of-run
shape_of-run c =
    c.hold_contexts.auto.run ∙ c.hold_resource_arn.auto.run
    ∙ c.hold_action_name.auto.run

pub returns : goal.returns
returns c =
    λ t e p. let m = (let o = object_told c.kind_at.ensures c.ne.ensures c.if-ne.false t e p in
    request_parts t p o c.slots-places.result c.slots-places.ensures c.if-places-eq0.false) in
    let x = slot action_names_word m.members in
    let y = slot resource_arns_word m.members in
    let z = slot context_entries_word m.members in
    let h = request_held x y z ((holds_past held_text c.args.run.now c.hold_action_name.new.run 0
    (action_in (slot action_names_word m.members)) (c.hold_action_name.ensures _ m.action) c.in_ok-p.was)) ((holds_past held_text c.hold_action_name.new.run c.hold_resource_arn.new.run
    c.in_ok-p.p (resource_in (slot resource_arns_word m.members))
    (c.hold_resource_arn.ensures _ m.resource) c.in_ok-q.was)) c.hold_contexts.new.run c.hold_contexts.result
    (c.hold_contexts.ensures z m.context) in
    holds_as held_request c.args.run.now c.hold_contexts.new.run 0 (request_within m.members) _
    c.hold_contexts.result h m.said
