-- A record: what its members say of it, and how it is held.
--   request_in x y z   the request that the members of the three words say
use Rattle.std.specs.Prelude.{Option, Some, None}
use mathlib.Core.Path.{◌≡◌, refl, sym, ap, ◌∙◌}
use mathlib.Core.Bool.{Bool, true, false}
use mathlib.Core.Logic.{◌⊎◌, inl, inr}
use mathlib.Core.List.{List, [], ◌∷◌}
use Prim.Native.Nat.{ℕ, zero, suc}
use native.Mathlib.Omega.{arith}
use lib.ListN.{get_or}
use Rattle.text.specs.Json.{Json, null, bool, number, string, list, object, Members}
use Rattle.text.specs.Contents.{kind_of, Stands}
use Rattle.syntax.specs.Policy.{Context, Request}
use Rattle.syntax.specs.Forms.{Reading, wrong, read}
use Rattle.syntax.specs.Words.{action_names_word, resource_arns_word, context_entries_word}
use Rattle.syntax.specs.Members.{Slot, many, then, slot, known, required, optional}
use Rattle.syntax.specs.RecordLayout.{only_one, action_name_of, resource_arn_of}
use Rattle.syntax.specs.RecordLayout.{contexts_of, request_of}
use Rattle.held.specs.Held.{held_text, held_list, held_context, held_request}
use Rattle.parts.specs.Slots.{words_of, word_at, Placed, Turn, Repeated, Slotted}
use Rattle.parts.specs.Holding.{is_object, Laid, Holds}
use Rattle.parts.specs.declared.members.Layout.TheVariants as L
use Rattle.parts.proofs.Laws.Holding.{never}
use Rattle.parts.proofs.Laws.Extends.{extends_then}
use Rattle.parts.proofs.Laws.Formed.{then_wrong, then_read}
use Rattle.parts.proofs.Laws.Requests.Objects.{AnObject, is_object_lem, object_stands}

-- ---- what the members say

pub not_request : (t : Json) → is_object (kind_of t) ≡ false → request_of t ≡ wrong
unfolding request_of
not_request null e = refl
not_request (bool true) e = refl
not_request (bool false) e = refl
not_request (number w) e = refl
not_request (string w) e = refl
not_request (list ts) e = refl
not_request (object ms) e = never (sym e)

abbrev pub action_in : Slot → Reading (List ℕ)
action_in x = required (only_one action_name_of) x

abbrev pub resource_in : Slot → Reading (List ℕ)
resource_in y = optional (42 ∷ []) (only_one resource_arn_of) y

abbrev pub context_in : Slot → Reading (List Context)
context_in z = optional [] contexts_of z

abbrev joined : Reading (List ℕ) → Reading (List ℕ) → Reading (List Context) → Reading Request
joined a r c = then a (λ a. then r (λ r. then c (λ cs. read (record { action = a; resource = r; context = cs }))))

abbrev pub request_in : Slot → Slot → Slot → Reading Request
request_in x y z = joined (action_in x) (resource_in y) (context_in z)

second_wrong : (a r : Reading (List ℕ)) (c : Reading (List Context)) → r ≡ wrong → joined a r c ≡ wrong
second_wrong wrong r c e = refl
second_wrong (read a) r c e = then_wrong _ e

third_wrong : (a r : Reading (List ℕ)) (c : Reading (List Context)) → c ≡ wrong → joined a r c ≡ wrong
third_wrong wrong r c e = refl
third_wrong (read a) wrong c e = refl
third_wrong (read a) (read r) c e = then_wrong _ e

module _ (x y z : Slot) where
  pub action_wrong : action_in x ≡ wrong → request_in x y z ≡ wrong
  action_wrong e = then_wrong _ e

  pub resource_wrong : resource_in y ≡ wrong → request_in x y z ≡ wrong
  resource_wrong e = second_wrong (action_in x) (resource_in y) (context_in z) e

module _ (ms : Members) where
  abbrev pub request_within : Reading Request
  request_within = request_in (slot action_names_word ms) (slot resource_arns_word ms) (slot context_entries_word ms)

  request_known : known (words_of L.Record) ms ≡ true → request_of (object ms) ≡ request_within
  unfolding request_of
  request_known e = rw e

  request_unknown : known (words_of L.Record) ms ≡ false → request_of (object ms) ≡ wrong
  unfolding request_of
  request_unknown e = rw e

  many_wrong : (k : ℕ) → Turn (words_of L.Record) k → slot (word_at (words_of L.Record) k) ms ≡ many
      → request_within ≡ wrong
  many_wrong zero t e = absurd (omega (arith, t.from))
  many_wrong (suc zero) t e =
      action_wrong (slot action_names_word ms) (slot resource_arns_word ms) (slot context_entries_word ms) (ap action_in e)
  many_wrong (suc (suc zero)) t e =
      resource_wrong (slot action_names_word ms) (slot resource_arns_word ms) (slot context_entries_word ms) (ap resource_in e)
  many_wrong (suc (suc (suc zero))) t e =
      third_wrong (action_in (slot action_names_word ms)) (resource_in (slot resource_arns_word ms))
      (context_in (slot context_entries_word ms)) (ap context_in e)
  many_wrong (suc (suc (suc (suc k)))) t e = absurd (omega (arith, t.to))

  by_known : (b : Bool) → known (words_of L.Record) ms ≡ b → request_within ≡ wrong → request_of (object ms) ≡ wrong
  by_known true e f = request_known e ∙ f
  by_known false e f = request_unknown e

  request_not : (known (words_of L.Record) ms ≡ false) ⊎ Repeated (words_of L.Record) ms → request_of (object ms) ≡ wrong
  request_not (inl e) = request_unknown e
  request_not (inr r) = by_known (known (words_of L.Record) ms) refl (many_wrong r.turn r.among r.many_times)

-- ---- where they stand

pub record Parts (s : List ℕ) (t : Json) (r : List ℕ) : Type 0 where
  pub members : Members
  pub is : t ≡ object members
  pub said : request_of t ≡ request_within members
  pub action : Placed s (get_or r 1 0) (slot action_names_word members)
  pub resource : Placed s (get_or r 2 0) (slot resource_arns_word members)
  pub context : Placed s (get_or r 3 0) (slot context_entries_word members)

module _ {s : List ℕ} {v e : ℕ} (t : Json) (p : Stands s t v e) (h : is_object (kind_of t) ≡ true) (r : List ℕ)
    (f : (ms : Members) (e : ℕ) → Stands s (object ms) v e → Slotted s (words_of L.Record) ms e r) where
  the_object : AnObject t
  the_object = is_object_lem t h

  slotted : Slotted s (words_of L.Record) the_object.members e r
  slotted = f the_object.members e (object_stands p the_object)

  pub request_parts : (get_or r 0 0 ≡ 0 → ⊥) → Parts s t r
  request_parts z =
      let q = (slotted.right z).1 in
      record {
        members = the_object.members;
        is = the_object.is;
        said = ap request_of the_object.is ∙ request_known the_object.members q.0;
        action = q.1 1 (record { from = omega arith; to = omega arith });
        resource = q.1 2 (record { from = omega arith; to = omega arith });
        context = q.1 3 (record { from = omega arith; to = omega arith });
      }

  pub request_apart : get_or r 0 0 ≡ 0 → request_of t ≡ wrong
  request_apart z = ap request_of the_object.is ∙ request_not the_object.members (slotted.not_right z)

-- ---- in the run

module _ {run run₁ run₂ : List ℕ} {p q : ℕ} (x y z : Slot) (a : Laid held_text run run₁ 0 (action_in x) p)
    (b : Laid held_text run₁ run₂ p (resource_in y) q) where
  said : request_in x y z
      ≡ then (context_in z) (λ cs. read (record { action = a.thing; resource = b.thing; context = cs }))
  said =
      then_read (λ a. then (resource_in y) (λ r. then (context_in z) (λ cs.
      read (record { action = a; resource = r; context = cs })))) a.said
      ∙ then_read (λ r. then (context_in z) (λ cs. read (record { action = a.thing; resource = r; context = cs })))
      b.said

  pub request_held : (run₃ : List ℕ) (r : Option ℕ) → Holds (held_list held_context) run₂ run₃ q (context_in z) r
      → Holds held_request run run₃ 0 (request_in x y z) r
  unfolding held_request
  request_held run₃ (Some e) c =
      record {
        thing = record { action = a.thing; resource = b.thing; context = c.thing };
        said = said ∙ then_read _ c.said;
        extends = extends_then a.extends (extends_then b.extends c.extends);
      }
  request_held run₃ None c =
      record { size = c.size ∙ b.extends.size ∙ a.extends.size; said = said ∙ then_wrong _ c.said }
