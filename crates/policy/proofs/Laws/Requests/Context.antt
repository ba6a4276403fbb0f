-- A context entry: what its members say of it, what room they have, and how it is held behind its type.
--   context_in x y z   the entry that the members of the three words say
use Rattle.std.specs.Prelude.{Option, Some, None}
use mathlib.Core.Path.{◌≡◌, refl, sym, ap, ◌∙◌, subst}
use mathlib.Core.Bool.{Bool, true, false}
use mathlib.Core.Logic.{◌⊎◌, inl, inr}
use mathlib.Core.List.{List, ◌∷◌, ◌++◌}
use Prim.Native.Nat.{ℕ, zero, suc, ◌+◌, ◌<◌}
use native.Mathlib.Omega.{arith}
use lib.ListN.{length, get_or, set}
use Rattle.text.specs.Json.{Json, null, bool, number, string, list, object, Members}
use Rattle.text.specs.Contents.{kind_of, Stands}
use Rattle.syntax.specs.Policy.{Context}
use Rattle.syntax.specs.Forms.{Reading, wrong, read}
use Rattle.syntax.specs.Words.{context_key_name_word, context_key_type_word, context_key_values_word}
use Rattle.syntax.specs.Members.{Slot, none, many, one, then, slot, known, required}
use Rattle.syntax.specs.RecordLayout.{key_name_of, typed_of, context_of}
use Rattle.held.specs.Held.{held_text, held_value, held_context}
use Rattle.parts.specs.Slots.{words_of, word_at, Placed, Turn, Repeated, Slotted}
use Rattle.parts.specs.Holding.{is_object, Extends, Laid, Holds}
use Rattle.parts.specs.declared.members.Layout.TheVariants as L
use Rattle.parts.specs.Requests.{type_of, number_of_type, typed_as}
use Rattle.parts.specs.declared.words.ValueType.{ValueType}
use Rattle.parts.proofs.Laws.Holding.{never}
use Rattle.parts.proofs.Laws.Extends.{extends_then, extends_front}
use Rattle.parts.proofs.Laws.Formed.{then_wrong, then_read}
use Rattle.parts.proofs.Laws.Fits.{then_inv}
use Rattle.parts.proofs.Laws.Requests.Tests.{typed_is, typed_none, typed_kind}
use Rattle.parts.proofs.Laws.Requests.Sole.{the_one}
use Rattle.parts.proofs.Laws.Requests.Objects.{AnObject, is_object_lem, object_stands}

-- ---- what the members say

pub not_context : (t : Json) → is_object (kind_of t) ≡ false → context_of t ≡ wrong
unfolding context_of
not_context null e = refl
not_context (bool true) e = refl
not_context (bool false) e = refl
not_context (number w) e = refl
not_context (string w) e = refl
not_context (list ts) e = refl
not_context (object ms) e = never (sym e)

abbrev pub valued : List ℕ → Json → List ℕ → Reading Context
valued k t cs = then (typed_of t cs) (λ v. read (record { key = k; value = v }))

abbrev pub context_in : Slot → Slot → Slot → Reading Context
context_in x y z = then (required key_name_of x) (λ k.
    then (required (λ t. read t) y) (λ t.
    then (the_one z) (valued k t)))

pub key_not : (x y z : Slot) → x ≡ many → context_in x y z ≡ wrong
key_not x y z e = ap (λ (u : Slot). context_in u y z) e

pub type_not : (r : Reading (List ℕ)) (y z : Slot) → y ≡ many
    → then r (λ k. then (required (λ t. read t) y) (λ t. then (the_one z) (valued k t))) ≡ wrong
type_not wrong y z e = refl
type_not (read k) y z e = ap (λ (u : Slot). then (required (λ t. read t) u) (λ t. then (the_one z) (valued k t))) e

pub value_not : (r : Reading (List ℕ)) (q : Reading Json) (z : Slot) → z ≡ many
    → then r (λ k. then q (λ t. then (the_one z) (valued k t))) ≡ wrong
value_not wrong q z e = refl
value_not (read k) wrong z e = refl
value_not (read k) (read t) z e = ap (λ (u : Slot). then (the_one u) (valued k t)) e

module _ (ms : Members) where
  abbrev pub context_within : Reading Context
  context_within = context_in (slot context_key_name_word ms) (slot context_key_type_word ms) (slot context_key_values_word ms)

  pub context_known : known (words_of L.Context) ms ≡ true → context_of (object ms) ≡ context_within
  unfolding context_of
  context_known e = rw e

  context_unknown : known (words_of L.Context) ms ≡ false → context_of (object ms) ≡ wrong
  unfolding context_of
  context_unknown e = rw e

  many_wrong : (k : ℕ) → Turn (words_of L.Context) k → slot (word_at (words_of L.Context) k) ms ≡ many
      → context_within ≡ wrong
  many_wrong zero t e = absurd (omega (arith, t.from))
  many_wrong (suc zero) t e = key_not _ (slot context_key_type_word ms) (slot context_key_values_word ms) e
  many_wrong (suc (suc zero)) t e =
      type_not (required key_name_of (slot context_key_name_word ms)) _ (slot context_key_values_word ms) e
  many_wrong (suc (suc (suc zero))) t e =
      value_not (required key_name_of (slot context_key_name_word ms))
      (required (λ t. read t) (slot context_key_type_word ms)) _ e
  many_wrong (suc (suc (suc (suc k)))) t e = absurd (omega (arith, t.to))

  pub by_known : (b : Bool) → known (words_of L.Context) ms ≡ b → context_within ≡ wrong → context_of (object ms) ≡ wrong
  by_known true e f = context_known e ∙ f
  by_known false e f = context_unknown e

  pub context_not : (known (words_of L.Context) ms ≡ false) ⊎ Repeated (words_of L.Context) ms
      → context_of (object ms) ≡ wrong
  context_not (inl e) = context_unknown e
  context_not (inr r) =
      by_known (known (words_of L.Context) ms) refl (many_wrong r.turn r.among r.many_times)

-- ---- one member after the other

module _ (x y z : Slot) where
  pub key_wrong : required key_name_of x ≡ wrong → context_in x y z ≡ wrong
  key_wrong e = then_wrong _ e

  type_zero : (r : Reading (List ℕ)) (y : Slot) → type_of y ≡ None
      → then r (λ k. then (required (λ t. read t) y) (λ t. then (the_one z) (valued k t))) ≡ wrong
  type_zero wrong y e = refl
  type_zero (read k) none e = refl
  type_zero (read k) many e = refl
  type_zero (read k) (one t) e = none_there (the_one z)
    where
      none_there : (r : Reading (List ℕ)) → then r (valued k t) ≡ wrong
      none_there wrong = refl
      none_there (read cs) = ap (λ v. then v (λ v. read (record { key = k; value = v }))) (typed_none t cs e)

  pub type_wrong : type_of y ≡ None → context_in x y z ≡ wrong
  type_wrong e = type_zero (required key_name_of x) y e

named_type : (k : List ℕ) (z y : Slot) (j : ValueType) → Some j ≡ type_of y
    → then (required (λ t. read t) y) (λ t. then (the_one z) (valued k t))
    ≡ then (then (the_one z) (typed_as j)) (λ v. read (record { key = k; value = v }))
named_type k z none j h = absurd (cc)
named_type k z many j h = absurd (cc)
named_type k z (one t) j h = by (the_one z)
  where
    by : (r : Reading (List ℕ)) → then r (valued k t)
        ≡ then (then r (typed_as j)) (λ v. read (record { key = k; value = v }))
    by wrong = refl
    by (read cs) = ap (λ v. then v (λ v. read (record { key = k; value = v }))) (typed_is t cs j h)

-- the key read, the entry is what the value of its type is
pub context_typed : (x y z : Slot) (k : List ℕ) (j : ValueType) → required key_name_of x ≡ read k → Some j ≡ type_of y
    → context_in x y z ≡ then (then (the_one z) (typed_as j)) (λ v. read (record { key = k; value = v }))
context_typed x y z k j e h =
    then_read (λ k. then (required (λ t. read t) y) (λ t. then (the_one z) (valued k t))) e ∙ named_type k z y j h

-- ---- in the run

module _ {run run₁ : List ℕ} {at p : ℕ} (x y z : Slot) (d : Laid held_text run run₁ (at + 1) (required key_name_of x) p)
    (low : at < length run) (k : ValueType) (is : Some k ≡ type_of y) (n : ℕ) (told : n ≡ number_of_type k) where
  said : context_in x y z ≡ then (then (the_one z) (typed_as k)) (λ v. read (record { key = d.thing; value = v }))
  said = context_typed x y z d.thing k d.said is

  pub context_held : (run₂ : List ℕ) (r : Option ℕ) → Holds held_value (set run₁ at n) run₂ p (then (the_one z) (typed_as k)) r
      → Holds held_context run run₂ at (context_in x y z) r
  unfolding held_context
  context_held run₂ (Some q) v =
      let w = then_inv (the_one z) (typed_as k) v.said in
      let kind = told ∙ typed_kind k w.thing v.thing w.next in
      let key = extends_front n low d.extends in
      let e = extends_then key v.extends in
      record {
        thing = record { key = d.thing; value = v.thing };
        said = said ∙ then_read _ v.said;
        extends = subst (λ (j : ℕ). Extends run run₂ at (j ∷ (held_text d.thing ++ held_value v.thing)) q) kind e;
      }
  context_held run₂ None v =
      record {
        size = v.size ∙ (extends_front n low d.extends).size;
        said = said ∙ then_wrong _ v.said;
      }

-- ---- where the members stand

pub record Parts (s : List ℕ) (t : Json) (r : List ℕ) : Type 0 where
  pub members : Members
  pub is : t ≡ object members
  pub said : context_of t ≡ context_within members
  pub key : Placed s (get_or r 1 0) (slot context_key_name_word members)
  pub type : Placed s (get_or r 2 0) (slot context_key_type_word members)
  pub value : Placed s (get_or r 3 0) (slot context_key_values_word members)

module _ {s : List ℕ} {v e : ℕ} (t : Json) (p : Stands s t v e) (h : is_object (kind_of t) ≡ true) (r : List ℕ)
    (f : (ms : Members) (e : ℕ) → Stands s (object ms) v e → Slotted s (words_of L.Context) ms e r) where
  the_object : AnObject t
  the_object = is_object_lem t h

  slotted : Slotted s (words_of L.Context) the_object.members e r
  slotted = f the_object.members e (object_stands p the_object)

  pub context_parts : (get_or r 0 0 ≡ 0 → ⊥) → Parts s t r
  context_parts z =
      let q = (slotted.right z).1 in
      record {
        members = the_object.members;
        is = the_object.is;
        said = ap context_of the_object.is ∙ context_known the_object.members q.0;
        key = q.1 1 (record { from = omega arith; to = omega arith });
        type = q.1 2 (record { from = omega arith; to = omega arith });
        value = q.1 3 (record { from = omega arith; to = omega arith });
      }

  pub context_end : (get_or r 0 0 ≡ 0 → ⊥) → get_or r 0 0 ≡ e
  context_end z = (slotted.right z).0

  pub context_apart : get_or r 0 0 ≡ 0 → context_of t ≡ wrong
  context_apart z =
      ap context_of the_object.is ∙ context_not the_object.members (slotted.not_right z)
