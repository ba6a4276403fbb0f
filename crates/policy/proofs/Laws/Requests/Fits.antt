-- What is read of a record's members needs no more numbers than they cost; the room that each member has.
--   context_fits   a context entry is held in no more numbers than its object costs
use mathlib.Core.Path.{◌≡◌, refl, sym, ap, ◌∙◌}
use mathlib.Core.Bool.{Bool, true, false}
use mathlib.Core.List.{List}
use Prim.Native.Nat.{ℕ, ◌+◌, ◌≤◌, ◌<◌}
use native.Mathlib.Omega.{arith}
use lib.ListN.{length, set, length-set, length-append}
use Rattle.chars.specs.Base.{pick}
use Rattle.text.specs.Json.{Json, null, bool, number, string, list, object, Members}
use Rattle.syntax.specs.Policy.{Value, text, Context}
use Rattle.syntax.specs.Policy as P
use Rattle.syntax.specs.Forms.{Reading, wrong, read, number_in}
use Rattle.syntax.specs.Words.{context_key_name_word, context_key_type_word, context_key_values_word, string_type_word}
use Rattle.syntax.specs.Words.{numeric_type_word}
use Rattle.syntax.specs.Members.{Slot, none, many, one, only, is_word, characters_of, slot, known, required}
use Rattle.syntax.specs.RecordLayout.{only_one, short, as_number, is_key_name, key_name_of, typed_of, context_of}
use Rattle.held.specs.Held.{held_text, held_value, held_context}
use Rattle.parts.specs.Slots.{words_of}
use Rattle.parts.specs.Room.{cost, costm, Roomy, cost_of}
use Rattle.parts.specs.Holding.{Laid}
use Rattle.parts.specs.declared.members.Layout.TheVariants as L
use Rattle.parts.proofs.Laws.Room.{slot_cost, slots_cost, layout_room, cost_object}
use Rattle.parts.proofs.Laws.Fits.{wrong_read, then_inv, only_inv, pick_inv, characters_fit}
use Rattle.parts.proofs.Laws.Requests.Sole.{sole_of, the_one, sole_only, sole_cost}
use Rattle.policy.proofs.Laws.Requests.Context.{context_in, context_within}

-- ---- one member

pub slot_value : (n : List ℕ) (x : Slot) → cost_of x ≤ slot_cost n x
slot_value n none = omega arith
slot_value n many = omega arith
slot_value n (one t) = omega arith

-- a member that is there costs its name too
pub required_cost : {A : Type 0} (f : Json → Reading A) (n : List ℕ) (x : Slot) {a : A} → required f x ≡ read a
    → length n + 3 + cost_of x ≤ slot_cost n x
required_cost f n none e = wrong_read e
required_cost f n many e = wrong_read e
required_cost f n (one t) e = omega arith

pub key_fit : (x : Slot) (k : List ℕ) → required key_name_of x ≡ read k → length k + 3 ≤ cost_of x
unfolding key_name_of
key_fit none k e = wrong_read e
key_fit many k e = wrong_read e
key_fit (one t) k e =
    let p = then_inv (characters_of t) (λ k. only (is_key_name k) k) e in
    let q = only_inv (is_key_name p.thing) p.next in
    omega (arith, ap length q, characters_fit t p.thing p.said)

sole_fit : (t : Json) (x : Slot) (cs : List ℕ) → sole_of t ≡ x → required characters_of x ≡ read cs
    → length cs + 3 ≤ cost t
sole_fit t none cs h e = wrong_read e
sole_fit t many cs h e = wrong_read e
sole_fit t (one u) cs h e = omega (arith, sole_cost t u h, characters_fit u cs e)

pub one_fit : (x : Slot) (cs : List ℕ) → the_one x ≡ read cs → length cs + 3 ≤ cost_of x
one_fit none cs e = wrong_read e
one_fit many cs e = wrong_read e
one_fit (one t) cs e = sole_fit t (sole_of t) cs refl (sym (sole_only characters_of t) ∙ e)

-- ---- a context entry

number_fit : (x : Reading ℕ) (v : Value) → as_number x ≡ read v → length (held_value v) ≤ 2
number_fit wrong v e = wrong_read e
number_fit (read n) v e = let y : P.number n ≡ v = cc in omega (arith, ap (λ (u : Value). length (held_value u)) y)

typed_by : (a b : Bool) (cs : List ℕ) (v : Value)
    → pick a (only (short cs) (text cs)) (pick b (as_number (number_in cs)) wrong) ≡ read v
    → length (held_value v) ≤ length cs + 2
typed_by true b cs v e =
    let y = only_inv (short cs) e in omega (arith, ap (λ (u : Value). length (held_value u)) y)
typed_by false true cs v e = omega (arith, number_fit (number_in cs) v e)
typed_by false false cs v e = wrong_read e

typed_fit : (t : Json) (cs : List ℕ) (v : Value) → typed_of t cs ≡ read v → length (held_value v) ≤ length cs + 2
unfolding typed_of
typed_fit t cs v e = typed_by (is_word string_type_word t) (is_word numeric_type_word t) cs v e

-- the three members share the object's cost
context_room : (ms : Members)
    → slot_cost context_key_name_word (slot context_key_name_word ms)
    + (slot_cost context_key_type_word (slot context_key_type_word ms)
    + (slot_cost context_key_values_word (slot context_key_values_word ms) + 0)) ≤ costm ms
unfolding slots_cost
context_room ms = layout_room L.Context ms

in_fit : (x y z : Slot) (c : Context) → context_in x y z ≡ read c
    → length (held_context c) ≤ slot_cost context_key_name_word x + slot_cost context_key_values_word z
unfolding held_context
in_fit x y z c e =
    let k = then_inv (required key_name_of x) _ e in
    let t = then_inv (required (λ t. read t) y) _ k.next in
    let w = then_inv (the_one z) _ t.next in
    let v = then_inv (typed_of t.thing w.thing) (λ v. read (record { key = k.thing; value = v })) w.next in
    let is : record { key = k.thing; value = v.thing } ≡ c = cc in
    omega (
      arith,
      ap (λ (d : Context). length (held_context d)) is,
      length-append (held_text k.thing) (held_value v.thing),
      typed_fit t.thing w.thing v.thing v.said,
      key_fit x k.thing k.said,
      one_fit z w.thing w.said,
      slot_value context_key_name_word x,
      required_cost (only_one characters_of) context_key_values_word z w.said,
    )

pub context_fits : (t : Json) (c : Context) → context_of t ≡ read c → length (held_context c) ≤ cost t
unfolding context_of
context_fits null c e = wrong_read e
context_fits (bool b) c e = wrong_read e
context_fits (number w) c e = wrong_read e
context_fits (string w) c e = wrong_read e
context_fits (list ts) c e = wrong_read e
context_fits (object ms) c e =
    let p : context_within ms ≡ read c = pick_inv (known (words_of L.Context) ms) e in
    omega (
      arith,
      in_fit (slot context_key_name_word ms) (slot context_key_type_word ms) (slot context_key_values_word ms) c p,
      context_room ms,
      cost_object ms,
    )

-- the room of its key and, behind the key, of its value
module _ {run : List ℕ} {at : ℕ} (t : Json) (room : Roomy run at (0 + cost t)) (ms : Members) (is : t ≡ object ms) where
  abbrev here : ℕ
  here = at + (2 + costm ms)

  enough : here ≤ length run
  enough = omega (arith, room.room, ap cost is ∙ cost_object ms)

  pub key_room : Roomy run (at + 1) (0 + cost_of (slot context_key_name_word ms))
  key_room =
      record {
        room = omega (arith, enough, context_room ms, slot_value context_key_name_word (slot context_key_name_word ms));
        bounded = room.bounded;
      }

  pub front_room : at < length run
  front_room = omega (arith, enough)

  pub value_room :
      {run₁ : List ℕ} {p : ℕ} (k : ℕ) → Laid held_text run run₁ (at + 1) (required key_name_of
      (slot context_key_name_word ms)) p
      → Roomy (set run₁ at k) p (0 + cost_of (slot context_key_values_word ms))
  value_room {run₁} {p} k d =
      record {
        room = omega (
          arith,
          enough,
          context_room ms,
          slot_value context_key_name_word (slot context_key_name_word ms),
          slot_value context_key_values_word (slot context_key_values_word ms),
          key_fit (slot context_key_name_word ms) d.thing d.said,
          d.extends.place,
          d.extends.size,
          length-set run₁ at k,
        );
        bounded = omega (arith, room.bounded, d.extends.size, length-set run₁ at k);
      }
