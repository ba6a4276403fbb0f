-- The key is held behind the place of the type, the type is put there, and the value is held behind the key.
use mathlib.Core.Path.{refl, sym, ◌∙◌}
use Prim.Native.Nat.{◌+◌}
use native.Mathlib.Omega.{arith}
use lib.ListN.{length-set}
use Rattle.syntax.specs.Words.{context_key_name_word, context_key_type_word, context_key_values_word}
use Rattle.syntax.specs.Members.{slot, required}
use Rattle.syntax.specs.RecordLayout.{key_name_of, context_of}
use Rattle.held.specs.Held.{held_text, held_context}
use Rattle.parts.proofs.Laws.Formed.{holds_past, holds_wrong}
use Rattle.parts.proofs.Laws.Requests.Members.{refused, holds_as}
use Rattle.parts.proofs.Laws.Requests.Objects.{is_object_lem, object_stands}
use Rattle.policy.proofs.Laws.Requests.Context.{not_context, context_within, key_wrong, type_wrong}
use Rattle.policy.proofs.Laws.Requests.Context.{context_parts, context_end, context_apart, context_held}
use Rattle.policy.proofs.Laws.Requests.Fits.{key_room, front_room, value_room}
use Rattle.parts.proofs.Laws.Kinds.{object_told}
use Rattle.parts.proofs.Laws.Formed.{none_ends}
use Rattle.policy.proofs.contexts.hold_context.Goals as goal

pub returns-then-ne : goal.returns-then-ne
returns-then-ne c =
    λ t e p. record {
      size = refl;
      said = not_context t (object_told c.kind_at.ensures c.ne.ensures c.if-ne.true t e p);
    }

pub slots-places-requires : goal.slots-places-requires
slots-places-requires c =
    let o = object_told c.kind_at.ensures c.ne.ensures c.if-ne.false _ _ c.requires.is in
    record { what = _; stop = _; is = object_stands c.requires.is (is_object_lem _ o) }

pub returns-then-end-eq0 : goal.returns-then-end-eq0
returns-then-end-eq0 c =
    λ t e p. let o = object_told c.kind_at.ensures c.ne.ensures c.if-ne.false t e p in
    record {
      size = refl;
      said = context_apart t p o c.slots-places.result c.slots-places.ensures
          c.if-end-eq0.true;
    }

pub overflow_add-at : goal.overflow_add-at
overflow_add-at c =
    omega (
      arith,
      (front_room _ c.requires.roomy (((let o = object_told c.kind_at.ensures c.ne.ensures c.if-ne.false _ _ c.requires.is in
          context_parts _ c.requires.is o c.slots-places.result c.slots-places.ensures c.if-end-eq0.false))).members (((let o = object_told c.kind_at.ensures c.ne.ensures c.if-ne.false _ _ c.requires.is in
          context_parts _ c.requires.is o c.slots-places.result c.slots-places.ensures c.if-end-eq0.false))).is),
      c.requires.roomy.bounded,
    )

pub hold_key_name-requires : goal.hold_key_name-requires
hold_key_name-requires c =
    let m = ((let o = object_told c.kind_at.ensures c.ne.ensures c.if-ne.false _ _ c.requires.is in
    context_parts _ c.requires.is o c.slots-places.result c.slots-places.ensures c.if-end-eq0.false)) in
    record { what = _; is = m.key; roomy = key_room _ c.requires.roomy m.members m.is }

pub returns-in_err-p : goal.returns-in_err-p
returns-in_err-p c =
    λ t e p.
    none_ends held_context c.args.run.now _ c.args.at (context_of t) _ c.from_residual.ensures
    (let m = (let o = object_told c.kind_at.ensures c.ne.ensures c.if-ne.false t e p in
    context_parts t p o c.slots-places.result c.slots-places.ensures c.if-end-eq0.false) in
    let x = slot context_key_name_word m.members in
    refused held_text _ _ (c.args.at + 1) (required key_name_of x) _ (c.hold_key_name.ensures _
    m.key) c.in_err-p.was
    (λ z. m.said ∙ key_wrong x (slot context_key_type_word m.members) (slot context_key_values_word m.members) z))

pub type_at-requires : goal.type_at-requires
type_at-requires c =
    record {
      what = _;
      is = (((let o = object_told c.kind_at.ensures c.ne.ensures c.if-ne.false _ _ c.requires.is in
          context_parts _ c.requires.is o c.slots-places.result c.slots-places.ensures c.if-end-eq0.false))).type;
    }

pub returns-in_err-kind : goal.returns-in_err-kind
returns-in_err-kind c =
    λ t e p.
    none_ends held_context c.args.run.now _ c.args.at (context_of t) _ c.from_residual-in_err-kind.ensures
    (let m = (let o = object_told c.kind_at.ensures c.ne.ensures c.if-ne.false t e p in
    context_parts t p o c.slots-places.result c.slots-places.ensures c.if-end-eq0.false) in
    let x = slot context_key_name_word m.members in
    let y = slot context_key_type_word m.members in
    record {
      size = ((holds_past held_text c.args.run.now c.hold_key_name.new.run
          (c.args.at + 1) (required key_name_of (slot context_key_name_word m.members))
          (c.hold_key_name.ensures _ m.key) c.in_ok-p.was)).extends.size;
      said = m.said ∙ type_wrong x y (slot context_key_values_word m.members) (sym (c.type_at.ensures _ m.type) ∙ c.in_err-kind.was);
    })

pub bounds-run-at : goal.bounds-run-at
bounds-run-at c =
    omega (
      arith,
      (front_room _ c.requires.roomy (((let o = object_told c.kind_at.ensures c.ne.ensures c.if-ne.false _ _ c.requires.is in
          context_parts _ c.requires.is o c.slots-places.result c.slots-places.ensures c.if-end-eq0.false))).members (((let o = object_told c.kind_at.ensures c.ne.ensures c.if-ne.false _ _ c.requires.is in
          context_parts _ c.requires.is o c.slots-places.result c.slots-places.ensures c.if-end-eq0.false))).is),
      ((holds_past held_text c.args.run.now c.hold_key_name.new.run
          (c.args.at + 1) (required key_name_of (slot context_key_name_word (((let o = object_told c.kind_at.ensures c.ne.ensures c.if-ne.false _ _ c.requires.is in
          context_parts _ c.requires.is o c.slots-places.result c.slots-places.ensures c.if-end-eq0.false))).members))
          (c.hold_key_name.ensures _ (((let o = object_told c.kind_at.ensures c.ne.ensures c.if-ne.false _ _ c.requires.is in
          context_parts _ c.requires.is o c.slots-places.result c.slots-places.ensures c.if-end-eq0.false))).key) c.in_ok-p.was)).extends.size,
    )

pub hold_typed-requires : goal.hold_typed-requires
hold_typed-requires c =
    let m = ((let o = object_told c.kind_at.ensures c.ne.ensures c.if-ne.false _ _ c.requires.is in
    context_parts _ c.requires.is o c.slots-places.result c.slots-places.ensures c.if-end-eq0.false)) in
    record {
      what = _;
      is = m.value;
      roomy = value_room _ c.requires.roomy m.members m.is
          c.number.result ((holds_past held_text c.args.run.now c.hold_key_name.new.run
          (c.args.at + 1) (required key_name_of (slot context_key_name_word m.members))
          (c.hold_key_name.ensures _ m.key) c.in_ok-p.was));
    }

pub shape_of-run-in_err-past : goal.shape_of-run-in_err-past
shape_of-run-in_err-past c = (c.hold_typed.auto.run ∙ length-set c.hold_key_name.new.run
    c.args.at c.number.result ∙ c.hold_key_name.auto.run)

pub returns-in_err-past : goal.returns-in_err-past
returns-in_err-past c =
    λ t e p.
    none_ends held_context c.args.run.now _ c.args.at (context_of t) _ c.from_residual-in_err-past.ensures
    (holds_wrong held_context _ _ _ (context_of t) ((let m = (let o = object_told c.kind_at.ensures c.ne.ensures c.if-ne.false t e p in
    context_parts t p o c.slots-places.result c.slots-places.ensures c.if-end-eq0.false) in
    let x = slot context_key_name_word m.members in
    let y = slot context_key_type_word m.members in
    let z = slot context_key_values_word m.members in
    let h = context_held x y z ((holds_past held_text c.args.run.now c.hold_key_name.new.run
    (c.args.at + 1) (required key_name_of (slot context_key_name_word m.members))
    (c.hold_key_name.ensures _ m.key) c.in_ok-p.was)) ((front_room _ c.requires.roomy (((let o = object_told c.kind_at.ensures c.ne.ensures c.if-ne.false _ _ c.requires.is in
    context_parts _ c.requires.is o c.slots-places.result c.slots-places.ensures c.if-end-eq0.false))).members (((let o = object_told c.kind_at.ensures c.ne.ensures c.if-ne.false _ _ c.requires.is in
    context_parts _ c.requires.is o c.slots-places.result c.slots-places.ensures c.if-end-eq0.false))).is)) c.in_ok-kind.kind (sym c.in_ok-kind.was ∙ c.type_at.ensures _ m.type) _ c.number.ensures c.hold_typed.new.run c.hold_typed.result
    (c.hold_typed.ensures z m.value) in
    holds_as held_context c.args.run.now c.hold_typed.new.run c.args.at (context_within m.members) _
    c.hold_typed.result h m.said))
    c.in_err-past.was)

pub shape_of-run : goal.shape_of-run
shape_of-run c = (c.hold_typed.auto.run ∙ length-set c.hold_key_name.new.run
    c.args.at c.number.result ∙ c.hold_key_name.auto.run)

pub returns : goal.returns
returns c =
    λ t e p. (
      holds_past held_context _ _ _ (context_of t) ((let m = (let o = object_told c.kind_at.ensures c.ne.ensures c.if-ne.false t e p in
          context_parts t p o c.slots-places.result c.slots-places.ensures c.if-end-eq0.false) in
          let x = slot context_key_name_word m.members in
          let y = slot context_key_type_word m.members in
          let z = slot context_key_values_word m.members in
          let h = context_held x y z ((holds_past held_text c.args.run.now c.hold_key_name.new.run
          (c.args.at + 1) (required key_name_of (slot context_key_name_word m.members))
          (c.hold_key_name.ensures _ m.key) c.in_ok-p.was)) ((front_room _ c.requires.roomy (((let o = object_told c.kind_at.ensures c.ne.ensures c.if-ne.false _ _ c.requires.is in
          context_parts _ c.requires.is o c.slots-places.result c.slots-places.ensures c.if-end-eq0.false))).members (((let o = object_told c.kind_at.ensures c.ne.ensures c.if-ne.false _ _ c.requires.is in
          context_parts _ c.requires.is o c.slots-places.result c.slots-places.ensures c.if-end-eq0.false))).is)) c.in_ok-kind.kind (sym c.in_ok-kind.was ∙ c.type_at.ensures _ m.type) _ c.number.ensures c.hold_typed.new.run c.hold_typed.result
          (c.hold_typed.ensures z m.value) in
          holds_as held_context c.args.run.now c.hold_typed.new.run c.args.at (context_within m.members) _
          c.hold_typed.result h m.said)) c.in_ok-past.was,
      (let o = object_told c.kind_at.ensures c.ne.ensures c.if-ne.false t e p in
          context_end t p o c.slots-places.result c.slots-places.ensures c.if-end-eq0.false),
    )
