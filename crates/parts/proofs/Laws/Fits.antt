-- What is read of a value needs no more numbers when it is held than its cost: texts, entries, lists and rows.
--   then_inv, only_inv, pick_inv, cons_inv      what was read before a thing that was read
--   entry_fits                                  entries of every kind
--   each_fits, one_or_more_fits, members_fits   things in a list or an object, where each by itself fits
--   row_fits_lem                                    a row, with its name
use mathlib.Core.Path.{◌≡◌, refl, ap}
use mathlib.Core.Bool.{Bool, true, false}
use mathlib.Core.List.{List, [], ◌∷◌, map}
use Prim.Native.Nat.{ℕ, ◌+◌, ◌≤◌}
use native.Mathlib.Omega.{arith}
use lib.ListN.{length, length-map, length-append}
use Rattle.chars.specs.Base.{pick}
use Rattle.text.specs.Json.{Json, null, bool, number, string, list, object, Values, no_more, also, Members}
use Rattle.text.specs.Json.{no_members, named}
use Rattle.chars.specs.Decoding.{text_of}
use Rattle.chars.proofs.Laws.Strings.Lengths.{chars_few}
use Rattle.syntax.specs.Policy.{Operator, StringEquals, StringLike, NumericLessThanEquals, Value, text, Row}
use Rattle.syntax.specs.Policy as P
use Rattle.syntax.specs.Forms.{Reading, wrong, read, is_action, wildcard, is_resource, is_sid, is_key, symbols_of}
use Rattle.syntax.specs.Members.{then, only, characters, characters_of, cons, each, some, one_or_more, members}
use Rattle.syntax.specs.PolicyLayout.{action_of, resource_of, as_text, as_number, number_of_json, value_of, key_of, row_of}
use Rattle.syntax.specs.PolicyLayout.{sid_of}
use Rattle.held.specs.Held.{held_text, held_each, held_list, held_value, held_row}
use Rattle.parts.specs.Room.{cost, costs, costm}
use Rattle.parts.specs.Spoken.{operator_is}
use Rattle.parts.specs.Holding.{entry_of}
use Rattle.parts.specs.declared.entries.Entry.{Entry}
use Rattle.parts.specs.declared.entries.Entry.TheVariants as E
use Rattle.syntax.proofs.Laws.Entries.{symbols_length}
use Rattle.parts.proofs.Laws.Halves.{json_room}

-- ---- what was read before

pub wrong_read : {A B : Type 0} {x : A} → ◌≡◌ {A = Reading A} wrong (read x) → B
wrong_read e = absurd (let y : ◌≡◌ {A = ℕ} 0 1 = cc in omega arith)

pub record Then {A B : Type 0} (x : Reading A) (f : A → Reading B) (b : B) : Type 0 where
  pub thing : A
  pub said : x ≡ read thing
  pub next : f thing ≡ read b

pub then_inv : {A B : Type 0} (x : Reading A) (f : A → Reading B) {b : B} → then x f ≡ read b → Then x f b
then_inv wrong f e = wrong_read e
then_inv (read a) f e = record { thing = a; said = refl; next = e }

pub only_inv : {A : Type 0} (t : Bool) {x y : A} → only t x ≡ read y → x ≡ y
only_inv true e = cc
only_inv false e = wrong_read e

pub pick_inv : {A : Type 0} (t : Bool) {x : Reading A} {y : A} → pick t x wrong ≡ read y → x ≡ read y
pick_inv true e = e
pick_inv false e = wrong_read e

pub record Cons {A : Type 0} (x : Reading A) (xs : Reading (List A)) (ys : List A) : Type 0 where
  pub head : A
  pub tail : List A
  pub first : x ≡ read head
  pub others : xs ≡ read tail
  pub is : ys ≡ head ∷ tail

pub cons_inv : {A : Type 0} (x : Reading A) (xs : Reading (List A)) {ys : List A} → cons x xs ≡ read ys → Cons x xs ys
cons_inv wrong xs e = wrong_read e
cons_inv (read x) wrong e = wrong_read e
cons_inv (read x) (read xs) e = record { head = x; tail = xs; first = refl; others = refl; is = cc }

record Texted (x : Reading (List ℕ)) (v : Value) : Type 0 where
  pub symbols : List ℕ
  pub said : x ≡ read symbols
  pub is : v ≡ text symbols

text_inv : (x : Reading (List ℕ)) {v : Value} → as_text x ≡ read v → Texted x v
text_inv wrong e = wrong_read e
text_inv (read ys) e = record { symbols = ys; said = refl; is = cc }

-- ---- texts

pub characters_few : (w cs : List ℕ) → characters w ≡ read cs → length cs ≤ length w
unfolding characters
characters_few w cs e = omega (arith, ap length (only_inv (text_of w).sound e), chars_few w)

pub characters_fit : (t : Json) (cs : List ℕ) → characters_of t ≡ read cs → length cs + 3 ≤ cost t
unfolding cost
characters_fit null cs e = wrong_read e
characters_fit (bool b) cs e = wrong_read e
characters_fit (number w) cs e = wrong_read e
characters_fit (string w) cs e = omega (arith, characters_few w cs e)
characters_fit (list ts) cs e = wrong_read e
characters_fit (object ms) cs e = wrong_read e

pub sid_fits : (t : Json) (cs : List ℕ) → sid_of t ≡ read cs → length (held_text cs) ≤ cost t
unfolding sid_of
sid_fits t cs e =
    let p = then_inv (characters_of t) (λ cs. only (is_sid cs) cs) e in
    let q = only_inv (is_sid p.thing) p.next in
    omega (arith, ap length q, characters_fit t p.thing p.said)

-- ---- entries

pub action_fits : (t : Json) (ys : List ℕ) → action_of t ≡ read ys → length (held_text ys) ≤ cost t
unfolding action_of
action_fits t ys e =
    let p = then_inv (characters_of t) (λ cs. only (is_action cs) (map wildcard cs)) e in
    let q = only_inv (is_action p.thing) p.next in
    omega (arith, ap length q, length-map p.thing wildcard, characters_fit t p.thing p.said)

symbols_fit : (w : Bool) (t : Json) (ys : List ℕ) → then (characters_of t) (symbols_of w) ≡ read ys
    → length (held_text ys) ≤ cost t
symbols_fit w t ys e =
    let p = then_inv (characters_of t) (symbols_of w) e in
    omega (arith, symbols_length w p.thing ys p.next, characters_fit t p.thing p.said)

pub resource_fits : (t : Json) (ys : List ℕ) → resource_of t ≡ read ys → length (held_text ys) ≤ cost t
unfolding resource_of
resource_fits t ys e =
    let p = then_inv (characters_of t) (λ cs. then (symbols_of true cs) (λ ys. only (is_resource ys) ys)) e in
    let q = then_inv (symbols_of true p.thing) (λ ys. only (is_resource ys) ys) p.next in
    let r = only_inv (is_resource q.thing) q.next in
    omega (
      arith,
      ap length r,
      symbols_length true p.thing q.thing q.said,
      characters_fit t p.thing p.said,
    )

text_fits : (t : Json) (x : Reading (List ℕ)) (v : Value)
    → ((ys : List ℕ) → x ≡ read ys → length (held_text ys) ≤ cost t)
    → as_text x ≡ read v → length (held_value v) ≤ cost t
text_fits t x v f e =
    let p = text_inv x e in
    omega (arith, ap (λ (u : Value). length (held_value u)) p.is, f p.symbols p.said)

number_fits : (t : Json) (x : Reading ℕ) (v : Value) → number_of_json t ≡ x → as_number x ≡ read v
    → length (held_value v) ≤ cost t
number_fits t wrong v k e = wrong_read e
number_fits t (read n) v k e =
    let y : P.number n ≡ v = cc in
    omega (arith, ap (λ (u : Value). length (held_value u)) y, json_room t k)

pub value_fits : (o : Operator) (t : Json) (v : Value) → value_of o t ≡ read v → length (held_value v) ≤ cost t
unfolding value_of
value_fits StringEquals t v e = text_fits t (then (characters_of t) (symbols_of false)) v (symbols_fit false t) e
value_fits StringLike t v e = text_fits t (then (characters_of t) (symbols_of true)) v (symbols_fit true t) e
value_fits NumericLessThanEquals t v e = number_fits t (number_of_json t) v refl e

pub entry_fits : (k : Entry) (t : Json) (x : P.Value) → entry_of k t ≡ read x → length (held_value x) ≤ cost t
entry_fits E.Action t x e = text_fits t (action_of t) x (action_fits t) e
entry_fits E.Resource t x e = text_fits t (resource_of t) x (resource_fits t) e
entry_fits (E.Value o) t x e = value_fits (operator_is o) t x e

-- ---- lists

module _ {A : Type 0} (h : A → List ℕ) where
  cons_length : (x : Reading A) (xs : Reading (List A)) (ys : List A) (m n : ℕ)
      → ((z : A) → x ≡ read z → length (h z) ≤ m) → ((zs : List A) → xs ≡ read zs → length (held_each h zs) ≤ n)
      → cons x xs ≡ read ys → length (held_each h ys) ≤ m + n
  unfolding held_each
  cons_length x xs ys m n f g e =
      let p = cons_inv x xs e in
      omega (
        arith,
        ap (λ (l : List A). length (held_each h l)) p.is,
        length-append (h p.head) (held_each h p.tail),
        f p.head p.first,
        g p.tail p.others,
      )

  none_length : (zs : List A) → ◌≡◌ {A = Reading (List A)} (read []) (read zs) → length (held_each h zs) ≤ 0
  unfolding held_each
  none_length zs e = let y : [] ≡ zs = cc in omega (arith, ap (λ (l : List A). length (held_each h l)) y)

  -- things that fit, one for each element
  module _ (f : Json → Reading A) (fits : (t : Json) (x : A) → f t ≡ read x → length (h x) ≤ cost t) where
    pub each_fits : (ts : Values) (xs : List A) → each f ts ≡ read xs → length (held_each h xs) ≤ costs ts
    unfolding each costs
    each_fits no_more xs e = none_length xs e
    each_fits (also t ts) xs e = cons_length (f t) (each f ts) xs (cost t) (costs ts) (fits t) (each_fits ts) e

    one_fits : (t : Json) (xs : List A) → cons (f t) (read []) ≡ read xs → length (held_each h xs) ≤ cost t
    one_fits t xs e = let y = cons_length (f t) (read []) xs (cost t) 0 (fits t) none_length e in omega arith

    some_fits : (ts : Values) (xs : List A) → some f ts ≡ read xs → length (held_each h xs) ≤ costs ts
    unfolding some
    some_fits no_more xs e = wrong_read e
    some_fits (also t ts) xs e = each_fits (also t ts) xs e

    pub parts_fit : (t : Json) (xs : List A) → one_or_more f t ≡ read xs → length (held_each h xs) ≤ cost t
    unfolding one_or_more cost
    parts_fit null xs e = one_fits null xs e
    parts_fit (bool b) xs e = one_fits (bool b) xs e
    parts_fit (number w) xs e = one_fits (number w) xs e
    parts_fit (string w) xs e = one_fits (string w) xs e
    parts_fit (list ts) xs e = omega (arith, some_fits ts xs e)
    parts_fit (object ms) xs e = one_fits (object ms) xs e

    pub one_or_more_fits : (t : Json) (xs : List A) → one_or_more f t ≡ read xs → length (held_list h xs) ≤ 1 + cost t
    one_or_more_fits t xs e = omega (arith, parts_fit t xs e)

  -- and for each member
  module _ (f : List ℕ → Json → Reading A)
      (fits : (w : List ℕ) (t : Json) (x : A) → f w t ≡ read x → length (h x) ≤ length w + 3 + cost t) where
    pub members_fits : (ms : Members) (xs : List A) → members f ms ≡ read xs → length (held_each h xs) ≤ costm ms
    unfolding members costm
    members_fits no_members xs e = none_length xs e
    members_fits (named w t ms) xs e =
        cons_length (f w t) (members f ms) xs (length w + 3 + cost t) (costm ms) (fits w t) (members_fits ms) e

-- ---- conditions

pub row_fits_lem : (o : Operator) (w : List ℕ) (t : Json) (r : Row) → row_of o w t ≡ read r
    → length (held_row r) ≤ length w + 3 + cost t
unfolding row_of key_of held_row
row_fits_lem o w t r e =
    let p = then_inv (key_of w)
    (λ k. then (one_or_more (value_of o) t) (λ vs. read (record { operator = o; key = k; entries = vs }))) e in
    let k = then_inv (characters w) (λ k. only (is_key k) k) p.said in
    let l = only_inv (is_key k.thing) k.next in
    let q = then_inv (one_or_more (value_of o) t)
    (λ vs. read (record { operator = o; key = p.thing; entries = vs })) p.next in
    let z : record { operator = o; key = p.thing; entries = q.thing } ≡ r = cc in
    omega (
      arith,
      ap (λ (x : Row). length (held_row x)) z,
      length-append (held_text p.thing) (held_list held_value q.thing),
      ap length l,
      characters_few w k.thing k.said,
      one_or_more_fits held_value (value_of o) (value_fits o) t q.thing q.said,
    )
