-- How an entry is handled, by its effect and its list; and a note stored behind others.
use mathlib.Core.Path.{◌≡◌, refl, sym, ap, ◌∙◌}
use mathlib.Core.List.{List}
use Prim.Native.Nat.{ℕ, ◌≤◌, ◌<◌}
use native.Mathlib.Omega.{arith}
use lib.ListN.{get_or}
use Rattle.syntax.specs.Policy.{Effect, Allow, Deny, Operator, StringEquals, StringLike, NumericLessThanEquals}
use Rattle.syntax.specs.Policy.{Value, text, number}
use Rattle.held.specs.Held.{held_value, mark, effect_number}
use Rattle.held.specs.Lying.{Lies}
use Rattle.held.proofs.Laws.Parts.{is_text_lem, is_number_lem}
use Rattle.candidates.specs.Entries.{comparison}
use Rattle.rooms.specs.Rooms.{Slot}
use Rattle.rooms.specs.Listing.{handling_by, handling}
use Rattle.rooms.specs.declared.listing.Handling.TheVariants as H

allowed : (a : Effect) → effect_number a ≡ 1 → a ≡ Allow
allowed Allow h = refl
allowed Deny h = absurd (omega arith)

-- ---- how an entry is handled

denied : (a : Effect) (o : Operator) (x : Value) → (effect_number a ≡ 1 → ⊥) → H.Nothing ≡ handling_by a o x
denied Allow o x h = absurd (h refl)
denied Deny o x h = refl

handled :
    (s : Slot) (o : Operator) (x : Value) → effect_number s.effect ≡ 1 → comparison s.place ≡ o → s.entry ≡ x
    → handling_by Allow o x ≡ handling s
handled s o x e f g =
    sym (ap (λ (a : Effect). handling_by a (comparison s.place) s.entry) (allowed s.effect e)
    ∙ ap (λ (z : Operator). handling_by Allow z s.entry) f ∙ ap (handling_by Allow o) g)

module _ {effect : ℕ} (s : Slot) (a : effect ≡ effect_number s.effect) where
  pub handled_deny : (effect ≡ 1 → ⊥) → H.Nothing ≡ handling s
  handled_deny h = denied s.effect (comparison s.place) s.entry (λ z. h (a ∙ z))

  module _ (h : effect ≡ 1) where
    pub handled_same : comparison s.place ≡ StringEquals → H.Itself ≡ handling s
    handled_same k = handled s StringEquals s.entry (sym a ∙ h) k refl

    module _ {run : List ℕ} {e : ℕ} (l : Lies run e (held_value s.entry)) where
      module _ (k : comparison s.place ≡ NumericLessThanEquals) where
        pub handled_untyped : get_or run e 0 < mark → H.Itself ≡ handling s
        handled_untyped m =
            let t = is_text_lem s.entry l m in
            handled s NumericLessThanEquals (text t.characters) (sym a ∙ h) k t.is

        pub handled_number : mark ≤ get_or run e 0 → H.Number ≡ handling s
        handled_number m =
            let t = is_number_lem s.entry l m in
            handled s NumericLessThanEquals (number t.value) (sym a ∙ h) k t.is

      module _ (k : comparison s.place ≡ StringLike) where
        pub handled_unlike : mark ≤ get_or run e 0 → H.Itself ≡ handling s
        handled_unlike m =
            let t = is_number_lem s.entry l m in
            handled s StringLike (number t.value) (sym a ∙ h) k t.is

        pub handled_like : get_or run e 0 < mark → H.Wild ≡ handling s
        handled_like m =
            let t = is_text_lem s.entry l m in
            handled s StringLike (text t.characters) (sym a ∙ h) k t.is
