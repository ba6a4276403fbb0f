-- The rows of a room that holds what its policy's can are rows that can be written.
--   slot_writ      one row;  rows_writ   those of some slots
--   policy_writ    a policy's
use mathlib.Core.Path.{◌≡◌, refl, sym, ap, ◌∙◌, subst}
use mathlib.Core.Bool.{Bool, true, false}
use mathlib.Core.List.{List, [], ◌∷◌, ◌++◌, map}
use Prim.Native.Nat.{ℕ, ◌+◌, ◌*◌, ◌≤◌, ◌<◌}
use native.Mathlib.Omega.{arith}
use lib.Dec.{leb, ltb}
use lib.ListN.{length, take, drop, length-append, length-drop}
use lib.Seq.{length-take-le, drop-drop}
use borrow.Author.Tests.{leb-true}
use Rattle.syntax.specs.Limits.{entry_characters, greatest}
use Rattle.syntax.specs.Policy.{star, Effect, Allow, Deny, Operator}
use Rattle.syntax.specs.Policy.{Value, text, number, Row, Statement, Policy}
use Rattle.syntax.specs.Forms.{both, all}
use Rattle.parts.proofs.Laws.Slots.{both_true}
use Rattle.writing.specs.Valid as Each
use Rattle.writing.specs.Valid.{Each, Some, ValidValue, equals, like, at_most, ValidRow, ValidStatement, Valid}
use Rattle.candidates.specs.Candidates.{under, Content, Kind, is_content}
use Rattle.candidates.specs.Beginnings.{begins}
use Rattle.candidates.specs.Kinds.{bounds}
use Rattle.candidates.specs.Entries.{Place, in_action, in_resource, in_row, is_plain, is_legal, has_form, legal_beginning}
use Rattle.candidates.specs.Entries.{wild_kind, before}
use Rattle.candidates.specs.Rows.{row_numbers, text_characters, content_of, is_row}
use Rattle.candidates.specs.Joining.{Textual, no_text, whole_text, single_text, begun_text, Numeric, no_number, one_number}
use Rattle.rooms.specs.Rooms.{Slot, slot_kind, slots_at, row_slots, statement_slots, slots, row_fits, fits}
use Rattle.refined.specs.Keeping.{Writable, Writ, WritRows, no_rows, a_row, row_values, statement_values, WritPolicy}
use Rattle.refined.specs.Keeping.{policy_values}
use Rattle.refined.specs.Keeping as K
use Rattle.refine.specs.Operations.{is_room, holds_for}
use Rattle.refine.specs.Sound.{Sound}
use Rattle.candidates.proofs.Laws.FittingWild.{by_tests, no_wildcard, final_star, kind_is}
use Rattle.rooms.specs.declared.listing.Handling.{Handling}
use Rattle.rooms.proofs.Laws.Handling.{Handled, denied, alone, wild, bound, handles, Alone, Wild, Bound}
use Rattle.rooms.proofs.Laws.Handling.{Mark, no_mark, a_mark, mark_only, made, back}
use Rattle.rooms.proofs.Laws.HandlingRows.{kind_row, number_of, text_of_lem}
use Rattle.refine.proofs.Laws.Held.{rows_enough}

-- ---- one row

-- a number that a policy can have
abbrev Small : Value → Type 0
Small (text ys) = Unit {0}
Small (number n) = n ≤ greatest

never_so : {A : Type 0} → ◌≡◌ {A = Bool} false true → A
never_so e = let y : ◌≡◌ {A = ℕ} 0 1 = cc in absurd (omega arith)

legal_few : (p : Place) (b q : List ℕ) → legal_beginning p b q ≡ true → length q < text_characters
unfolding legal_beginning
legal_few p b q e =
    let a = both_true (both (begins b q) (ltb (length b) (length q)))
    (both (all (is_plain p) q) (is_legal p (q ++ (star ∷ [])))) e in
    let c = both_true (all (is_plain p) q) (is_legal p (q ++ (star ∷ []))) a.1 in
    let d = both_true (has_form p (q ++ (star ∷ []))) (leb (length (q ++ (star ∷ []))) entry_characters) c.1 in
    omega (
      arith,
      leb-true (length (q ++ (star ∷ []))) entry_characters d.1,
      length-append q (star ∷ []),
    )

under_few : (p : Place) (ys q : List ℕ) → (wild_kind p ys).is (under q) ≡ true → length q < text_characters
under_few p ys q e =
    by (no_wildcard p ys) (final_star p ys) (sym (ap (λ (k : Kind). k.is (under q)) (kind_is p ys)) ∙ e)
  where
    by : (a b : Bool) → (by_tests p ys a b).is (under q) ≡ true → length q < text_characters
    by true b f = never_so f
    by false true f = legal_few p (before ys) q f
    by false false f = never_so f

text_writable :
    (p : Place) (ys : List ℕ) (c : Content) → Textual c → is_content (wild_kind p ys) c ≡ true → Writable (text ys) c
text_writable p ys c no_text e = K.nothing
text_writable p ys c whole_text e = K.whole
text_writable p ys c (single_text h) e = K.one h
text_writable p ys c (begun_text {q} h) e = K.begun (under_few p ys q e)

number_writable : (n : ℕ) (c : Content) → n ≤ greatest → Numeric c → is_content (bounds leb n) c ≡ true
    → Writable (number n) c
number_writable n c h no_number e = K.nothing
number_writable n c h (one_number {n = m}) e =
    let l : m ≤ n = leb-true m n e in K.at_most {n = m} (omega (arith, l, h))

mark_writable : {c : Content} (x : Value) → Mark c → Writable x c
mark_writable x no_mark = K.nothing
mark_writable x a_mark = K.whole

module _ (s : Slot) (xs : List ℕ) (allow : s.effect ≡ Allow) (small : Small s.entry) (size : length xs ≡ row_numbers)
    (f : row_fits s xs ≡ true) where
  is_row_lem : {k : Kind} → slot_kind s ≡ k → is_row k xs ≡ true
  is_row_lem e = kind_row s xs allow e f

  alone_writ : Alone s → Writ s.entry xs
  alone_writ w =
      record {
        content = content_of xs;
        writable = mark_writable s.entry (mark_only w.test xs (is_row_lem w.kind));
        is = back (slot_kind s) xs (is_row_lem refl);
      }

  wild_writ : Wild s → Writ s.entry xs
  wild_writ w =
      let t = text_of_lem s xs f size w in
      record {
        content = content_of xs;
        writable = subst (λ (x : Value). Writable x (content_of xs)) (sym w.is)
            (text_writable s.place w.symbols (content_of xs) t.textual
            (made (wild_kind s.place w.symbols) xs (is_row_lem w.kind)));
        is = t.is;
      }

  bound_writ : Bound s → Writ s.entry xs
  bound_writ b =
      let t = number_of s xs f b in
      record {
        content = content_of xs;
        writable = subst (λ (x : Value). Writable x (content_of xs)) (sym b.is)
            (number_writable b.most (content_of xs) (subst Small b.is small) t.numeric
            (made (bounds leb b.most) xs (is_row_lem b.kind)));
        is = t.is;
      }

  both_effects : {A : Type 0} → s.effect ≡ Deny → A
  both_effects d = let e : Allow ≡ Deny = sym allow ∙ d in let y : ◌≡◌ {A = ℕ} 0 1 = cc in absurd (omega arith)

  slot_writ : Writ s.entry xs
  slot_writ = by (handles s)
    where
      by : {k : Handling} → Handled s k → Writ s.entry xs
      by (denied d) = both_effects d
      by (alone w) = alone_writ w
      by (wild w) = wild_writ w
      by (bound b) = bound_writ b

-- ---- the rows of some slots

abbrev entry_of : Slot → Value
entry_of s = s.entry

data RowsFit : List Slot → List ℕ → Type 0 where
  none_fit : {xs : List ℕ} → RowsFit [] xs
  row_fits_lem : {s : Slot} {ss : List Slot} {xs : List ℕ} → row_fits s (take row_numbers xs) ≡ true
      → RowsFit ss (drop row_numbers xs) → RowsFit (s ∷ ss) xs

record Parted (ss ts : List Slot) (xs : List ℕ) : Type 0 where
  front : RowsFit ss xs
  back_fits : fits ts (drop (row_numbers * length ss) xs) ≡ true

parted : (ss ts : List Slot) (xs : List ℕ) → fits (ss ++ ts) xs ≡ true → Parted ss ts xs
unfolding fits
parted [] ts xs e = record { front = none_fit; back_fits = e }
parted (s ∷ ss) ts xs e =
    let a = both_true (row_fits s (take row_numbers xs)) (fits (ss ++ ts) (drop row_numbers xs)) e in
    let r = parted ss ts (drop row_numbers xs) a.1 in
    let n : row_numbers + row_numbers * length ss ≡ row_numbers * length (s ∷ ss) = omega arith in
    record {
      front = row_fits_lem a.0 r.front;
      back_fits = ap (fits ts)
          (sym (drop-drop (row_numbers * length ss) row_numbers xs ∙ ap (λ (k : ℕ). drop k xs) n)) ∙ r.back_fits;
    }

rows_writ : (ss : List Slot) (ns : List ℕ) → Each Slot (λ s. s.effect ≡ Allow) ss → Each Value Small (map entry_of ss)
    → row_numbers * length ss ≤ length ns → RowsFit ss ns → WritRows (map entry_of ss) ns
rows_writ ss ns Each.none m h none_fit = no_rows
rows_writ (s ∷ ss) ns (Each.more a more-a) (Each.more b more-b) h (row_fits_lem f r) =
    a_row
    (slot_writ s (take row_numbers ns) a b (length-take-le row_numbers ns (omega (arith, h))) f)
    (rows_writ ss (drop row_numbers ns) more-a more-b (omega (arith, h, length-drop row_numbers ns)) r)

-- ---- a statement's slots

entries_at : (e : Effect) (p : Place) (xs : List Value) → map entry_of (slots_at e p xs) ≡ xs
entries_at e p [] = refl
entries_at e p (x ∷ xs) = ap (λ (l : List Value). x ∷ l) (entries_at e p xs)

map_append : (ss ts : List Slot) → map entry_of (ss ++ ts) ≡ map entry_of ss ++ map entry_of ts
map_append [] ts = refl
map_append (s ∷ ss) ts = ap (λ (l : List Value). s.entry ∷ l) (map_append ss ts)

append_as : {xs ys us vs : List Value} → xs ≡ us → ys ≡ vs → xs ++ ys ≡ us ++ vs
append_as {xs} {ys} {us} {vs} e f = ap (λ (l : List Value). l ++ ys) e ∙ ap (λ (l : List Value). us ++ l) f

row_entries_lem : (e : Effect) (rs : List Row) → map entry_of (row_slots e rs) ≡ row_values rs
unfolding row_slots row_values
row_entries_lem e [] = refl
row_entries_lem e (r ∷ rs) =
    map_append (slots_at e (in_row r.operator) r.entries) (row_slots e rs)
    ∙ append_as (entries_at e (in_row r.operator) r.entries) (row_entries_lem e rs)

statement_entries_lem : (s : Statement) → map entry_of (statement_slots s) ≡ statement_values s
unfolding statement_slots statement_values
statement_entries_lem s =
    let a = slots_at s.effect in_action (map text s.actions) in
    let b = slots_at s.effect in_resource (map text s.resources) in
    map_append a (b ++ row_slots s.effect s.rows)
    ∙ append_as (entries_at s.effect in_action (map text s.actions))
    (map_append b (row_slots s.effect s.rows)
    ∙ append_as (entries_at s.effect in_resource (map text s.resources)) (row_entries_lem s.effect s.rows))

length_entries : (ss : List Slot) → length (map entry_of ss) ≡ length ss
length_entries [] = refl
length_entries (s ∷ ss) = omega (arith, length_entries ss)

each_append : {A : Type 0} {P : A → Type 0} {xs ys : List A} → Each A P xs → Each A P ys → Each A P (xs ++ ys)
each_append Each.none r = r
each_append (Each.more x q) r = Each.more x (each_append q r)

Allows : List Slot → Type 0
Allows ss = Each Slot (λ s. s.effect ≡ Allow) ss

allow_at : (e : Effect) (p : Place) (xs : List Value) → e ≡ Allow → Allows (slots_at e p xs)
unfolding Allows
allow_at e p [] a = Each.none
allow_at e p (x ∷ xs) a = Each.more a (allow_at e p xs a)

allow_rows : (e : Effect) (rs : List Row) → e ≡ Allow → Allows (row_slots e rs)
unfolding row_slots Allows
allow_rows e [] a = Each.none
allow_rows e (r ∷ rs) a = each_append (allow_at e (in_row r.operator) r.entries a) (allow_rows e rs a)

allow_statement : (s : Statement) → s.effect ≡ Allow → Allows (statement_slots s)
unfolding statement_slots Allows
allow_statement s a =
    each_append (allow_at s.effect in_action (map text s.actions) a)
    (each_append (allow_at s.effect in_resource (map text s.resources) a) (allow_rows s.effect s.rows a))

Smalls : List Value → Type 0
Smalls xs = Each Value Small xs

small_texts : (xs : List (List ℕ)) → Smalls (map text xs)
unfolding Smalls
small_texts [] = Each.none
small_texts (x ∷ xs) = Each.more Prim.tt (small_texts xs)

small_value : {o : Operator} (x : Value) → ValidValue o x → Small x
small_value x (equals h) = Prim.tt
small_value x (like h) = Prim.tt
small_value x (at_most h) = h

small_values : {o : Operator} {xs : List Value} → Each Value (ValidValue o) xs → Smalls xs
unfolding Smalls
small_values Each.none = Each.none
small_values (Each.more {x = x} v vs) = Each.more (small_value x v) (small_values vs)

some_each : {A : Type 0} {P : A → Type 0} {xs : List A} → Some A P xs → Each A P xs
some_each (Each.first x q) = Each.more x q

small_rows : {rs : List Row} → Each Row ValidRow rs → Smalls (row_values rs)
unfolding row_values Smalls
small_rows Each.none = Each.none
small_rows (Each.more v vs) = each_append (small_values (some_each v.entries)) (small_rows vs)

small_statement : (s : Statement) → ValidStatement s → Smalls (statement_values s)
unfolding statement_values Smalls
small_statement s v =
    each_append (small_texts s.actions) (each_append (small_texts s.resources) (small_rows v.rows.each))

-- ---- a policy's

statement_writ : (s : Statement) (ns : List ℕ) → s.effect ≡ Allow → ValidStatement s
    → row_numbers * length (statement_slots s) ≤ length ns → RowsFit (statement_slots s) ns
    → WritRows (statement_values s) ns
unfolding Allows Smalls
statement_writ s ns a v h f =
    subst (λ (vs : List Value). WritRows vs ns) (statement_entries_lem s)
    (rows_writ (statement_slots s) ns (allow_statement s a)
    (subst (Each Value Small) (sym (statement_entries_lem s)) (small_statement s v)) h f)

-- one statement before others
statement_before :
    (s : Statement) (p : Policy) (ns : List ℕ) → ValidStatement s
    → row_numbers * length (statement_slots s ++ slots p) ≤ length ns → RowsFit (statement_slots s) ns
    → WritPolicy p (drop (row_numbers * length (statement_values s)) ns) → WritPolicy (s ∷ p) ns
statement_before s p ns v h f w = by s.effect refl
  where
    by : (e : Effect) → s.effect ≡ e → WritPolicy (s ∷ p) ns
    by Allow e =
        K.an_allow e
        (statement_writ s ns e v (omega (arith, h, length-append (statement_slots s) (slots p))) f) w
    by Deny e = K.a_deny e w

writ_all : (p : Policy) (ns : List ℕ) → Each Statement ValidStatement p → row_numbers * length (slots p) ≤ length ns
    → fits (slots p) ns ≡ true → WritPolicy p ns
unfolding slots
writ_all [] ns v h f = K.no_statements
writ_all (s ∷ p) ns (Each.more v vs) h f =
    let r = parted (statement_slots s) (slots p) ns f in
    let many : length (statement_slots s) ≡ length (statement_values s)
    = sym (length_entries (statement_slots s)) ∙ ap length (statement_entries_lem s) in
    let rest = drop (row_numbers * length (statement_values s)) ns in
    let g : fits (slots p) rest ≡ true
    = ap (λ (k : ℕ). fits (slots p) (drop (row_numbers * k) ns)) (sym many) ∙ r.back_fits in
    statement_before s p ns v h r.front
    (writ_all p rest vs
    (omega (
      arith,
      h,
      many,
      length-append (statement_slots s) (slots p),
      length-drop (row_numbers * length (statement_values s)) ns,
    )) g)

pub policy_writ : (p : Policy) (room : List ℕ) → Sound p → is_room room ≡ true → holds_for p room ≡ true
    → WritPolicy p room
policy_writ p room s e f = writ_all p room (some_each s.valid.statements) (rows_enough room s e) f

-- ---- as many values as slots

pub policy_many : (p : Policy) → length (policy_values p) ≡ length (slots p)
unfolding policy_values slots
policy_many [] = refl
policy_many (s ∷ p) =
    omega (
      arith,
      length-append (statement_values s) (policy_values p),
      length-append (statement_slots s) (slots p),
      policy_many p,
      length_entries (statement_slots s),
      ap length (statement_entries_lem s),
    )

pub values_enough : {p : Policy} (room : List ℕ) → Sound p → is_room room ≡ true
    → row_numbers * length (policy_values p) ≤ length room
values_enough {p} room s e = omega (arith, policy_many p, rows_enough room s e)
