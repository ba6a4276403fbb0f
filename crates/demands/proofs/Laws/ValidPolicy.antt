-- A refined policy is valid and within the limits; so what Finish writes reads back as it.
use mathlib.Core.Path.{◌≡◌, refl, sym, ap, ◌∙◌}
use mathlib.Core.Bool.{true, false}
use mathlib.Core.List.{List, [], ◌∷◌, ◌++◌, map, append_assoc}
use Prim.Native.Nat.{ℕ, ◌≤◌}
use native.Mathlib.Omega.{arith}
use lib.Dec.{ltb}
use lib.ListN.{length}
use Rattle.syntax.specs.Limits.{most_rows, key_characters}
use Rattle.syntax.specs.Policy.{Allow, Value, text, number, Row, Statement}
use Rattle.syntax.specs.Forms.{both, either}
use Rattle.held.specs.Held.{any_of, long_text, long_value, row_over, rows_over, statement_over, total_of, row_entries}
use Rattle.held.specs.Held.{statement_entries}
use Rattle.parts.proofs.Laws.Slots.{both_true}
use Rattle.writing.specs.Valid as Each
use Rattle.writing.specs.Valid.{Each, Some, ValidAction, ValidResource, ValidValue, ValidRow, ValidRows, ValidStatement}
use Rattle.writing.specs.Valid.{Valid}
use Rattle.candidates.specs.Entries.{Place, in_action, in_resource, in_row}
use Rattle.rooms.specs.Rooms.{Slot, slots_at, row_slots, fits}
use Rattle.refined.specs.Finishing.{kept, behind, text_of, kept_texts, kept_rows, has_some, all_some, is_whole, kept_statement}
use Rattle.candidates.proofs.Laws.Refined.{ValidAt}
use Rattle.demands.proofs.Laws.Narrowing.{list_fits}
use Rattle.demands.proofs.Laws.NarrowingPolicy.{fits_list, behind_texts, allow_slots}
use Rattle.demands.proofs.Laws.ValidLists.{either_none, both_false, kept_valid, kept_few, each_some}
use Rattle.demands.proofs.Laws.ValidLists.{kept_keys, kept_operators}

pub some_each : {A : Type 0} {P : A → Type 0} {xs : List A} → Some A P xs → Each A P xs
some_each (Each.first v vs) = Each.more v vs

-- ---- lists of texts

-- texts as values, and back
to_values : {P : List ℕ → Type 0} (p : Place) → ((ys : List ℕ) → P ys → ValidAt p (text ys)) → (xs : List (List ℕ))
    → Each (List ℕ) P xs → Each Value (ValidAt p) (map text xs)
to_values p f xs Each.none = Each.none
to_values p f (x ∷ xs) (Each.more v vs) = Each.more (f x v) (to_values p f xs vs)

to_texts : {P : List ℕ → Type 0} (p : Place) → ((ys : List ℕ) → ValidAt p (text ys) → P ys)
    → ((n : ℕ) → ValidAt p (number n) → ⊥) → (xs : List Value) → Each Value (ValidAt p) xs
    → Each (List ℕ) P (map text_of xs)
to_texts p f g xs Each.none = Each.none
to_texts p f g (text ys ∷ xs) (Each.more v vs) = Each.more (f ys v) (to_texts p f g xs vs)
to_texts p f g (number n ∷ xs) (Each.more v vs) = absurd (g n v)

long_values : (xs : List (List ℕ)) → any_of long_value (map text xs) ≡ any_of long_text xs
unfolding any_of
long_values [] = refl
long_values (x ∷ xs) = ap (either (long_text x)) (long_values xs)

long_texts : (p : Place) → ((n : ℕ) → ValidAt p (number n) → ⊥) → (xs : List Value) → Each Value (ValidAt p) xs
    → any_of long_text (map text_of xs) ≡ any_of long_value xs
unfolding any_of
long_texts p g xs Each.none = refl
long_texts p g (text ys ∷ xs) (Each.more v vs) = ap (either (long_text ys)) (long_texts p g xs vs)
long_texts p g (number n ∷ xs) (Each.more v vs) = absurd (g n v)

record TextsValid (P : List ℕ → Type 0) (xs : List (List ℕ)) : Type 0 where
  each : Some (List ℕ) P xs
  short : any_of long_text xs ≡ false

module _ (P : List ℕ → Type 0) (p : Place) (there : (ys : List ℕ) → P ys → ValidAt p (text ys))
    (back : (ys : List ℕ) → ValidAt p (text ys) → P ys) (no_number : (n : ℕ) → ValidAt p (number n) → ⊥) where
  texts_valid : (xs : List (List ℕ)) (ns : List ℕ) → list_fits p (map text xs) ns ≡ true → Some (List ℕ) P xs
      → any_of long_text xs ≡ false → has_some (kept_texts xs ns) ≡ true → TextsValid P (kept_texts xs ns)
  texts_valid xs ns f v l h =
      let w = kept_valid p (map text xs) ns f
      (record { each = to_values p there xs (some_each v); short = long_values xs ∙ l }) in
      record {
        each = each_some (kept_texts xs ns) (to_texts p back no_number (kept (map text xs) ns) w.each) h;
        short = long_texts p no_number (kept (map text xs) ns) w.each ∙ w.short;
      }

-- ---- condition rows

record RowsGood (rs : List Row) : Type 0 where
  each : Each Row ValidRow rs
  short : any_of row_over rs ≡ false

rows_good : (rs : List Row) (ss : List Slot) (ns : List ℕ) → fits (row_slots Allow rs ++ ss) ns ≡ true
    → Each Row ValidRow rs → any_of row_over rs ≡ false → all_some (kept_rows rs ns) ≡ true → RowsGood (kept_rows rs ns)
unfolding row_slots kept_rows all_some any_of row_over
rows_good [] ss ns f v l h = record { each = Each.none; short = refl }
rows_good (r ∷ rs) ss ns f (Each.more v vs) l h =
    let p = in_row r.operator in
    let g = fits_list p r.entries (row_slots Allow rs ++ ss) ns
    (sym (ap (λ (z : List Slot). fits z ns) (append_assoc (slots_at Allow p r.entries) (row_slots Allow rs) ss)) ∙ f) in
    let a = either_none (row_over r) (any_of row_over rs) l in
    let b = either_none (ltb key_characters (length r.key)) (any_of long_value r.entries) a.0 in
    let t = both_true (has_some (kept r.entries ns)) (all_some (kept_rows rs (behind r.entries ns))) h in
    let w = kept_valid p r.entries ns g.0 (record { each = some_each v.entries; short = b.1 }) in
    let rest = rows_good rs ss (behind r.entries ns) g.1 vs a.1 t.1 in
    record {
      each = Each.more (record { key = v.key; entries = each_some (kept r.entries ns) w.each t.0 }) rest.each;
      short = both_false (both_false b.0 w.short) rest.short;
    }

rows_count : (rs : List Row) (ns : List ℕ) → length (kept_rows rs ns) ≡ length rs
unfolding kept_rows
rows_count [] ns = refl
rows_count (r ∷ rs) ns = omega (arith, rows_count rs (behind r.entries ns))

rows_few : (rs : List Row) (ns : List ℕ) → row_entries (kept_rows rs ns) ≤ row_entries rs
unfolding kept_rows total_of
rows_few [] ns = omega arith
rows_few (r ∷ rs) ns = omega (arith, kept_few r.entries ns, rows_few rs (behind r.entries ns))

-- ---- a statement

pub record StatementGood (s : Statement) : Type 0 where
  pub valid : ValidStatement s
  pub short : statement_over s ≡ false

map_count : (xs : List Value) → length (map text_of xs) ≡ length xs
map_count [] = refl
map_count (x ∷ xs) = omega (arith, map_count xs)

text_count : (xs : List (List ℕ)) → length (map text xs) ≡ length xs
text_count [] = refl
text_count (x ∷ xs) = omega (arith, text_count xs)

texts_few : (xs : List (List ℕ)) (ns : List ℕ) → length (kept_texts xs ns) ≤ length xs
texts_few xs ns =
    omega (arith, map_count (kept (map text xs) ns), kept_few (map text xs) ns, text_count xs)

pub entries_few : (s : Statement) (ns : List ℕ) → statement_entries (kept_statement s ns) ≤ statement_entries s
unfolding statement_entries kept_statement
entries_few s ns =
    omega (
      arith,
      texts_few s.actions ns,
      texts_few s.resources (behind s.actions ns),
      rows_few s.rows (behind s.resources (behind s.actions ns)),
    )

pub statement_good : (s : Statement) (ss : List Slot) (ns : List ℕ) → fits (allow_slots s ++ ss) ns ≡ true
    → StatementGood s → is_whole (kept_statement s ns) ≡ true → StatementGood (kept_statement s ns)
unfolding kept_statement statement_over rows_over
statement_good s ss ns f w h =
    let a = slots_at Allow in_action (map text s.actions) in
    let b = slots_at Allow in_resource (map text s.resources) in
    let c = row_slots Allow s.rows in
    let ns1 = behind s.actions ns in
    let ns2 = behind s.resources ns1 in
    let f1 = fits_list in_action (map text s.actions) ((b ++ c) ++ ss) ns
    (sym (ap (λ (l : List Slot). fits l ns) (append_assoc a (b ++ c) ss)) ∙ f) in
    let f2 = fits_list in_resource (map text s.resources) (c ++ ss) ns1
    (sym (ap (λ (l : List Slot). fits l ns1) (append_assoc b c ss))
    ∙ ap (fits ((b ++ c) ++ ss)) (sym (behind_texts s.actions ns)) ∙ f1.1) in
    let f3 : fits (c ++ ss) ns2 ≡ true = ap (fits (c ++ ss)) (sym (behind_texts s.resources ns1)) ∙ f2.1 in
    let t = both_true (has_some (kept_texts s.actions ns))
    (both (has_some (kept_texts s.resources ns1)) (all_some (kept_rows s.rows ns2))) h in
    let u = both_true (has_some (kept_texts s.resources ns1)) (all_some (kept_rows s.rows ns2)) t.1 in
    let l = either_none (rows_over s.rows) (either (any_of long_text s.actions) (any_of long_text s.resources))
    w.short in
    let m = either_none (any_of long_text s.actions) (any_of long_text s.resources) l.1 in
    let n = either_none (ltb most_rows (length s.rows)) (any_of row_over s.rows) l.0 in
    let x = texts_valid ValidAction in_action (λ ys v. v) (λ ys v. v) (λ k v. v) s.actions ns f1.0
    w.valid.actions m.0 t.0 in
    let y = texts_valid ValidResource in_resource (λ ys v. v) (λ ys v. v) (λ k v. v) s.resources ns1 f2.0
    w.valid.resources m.1 u.0 in
    let z = rows_good s.rows ss ns2 f3 w.valid.rows.each n.1 u.1 in
    record {
      valid = record {
        sid = w.valid.sid;
        actions = x.each;
        resources = y.each;
        rows = record {
          each = z.each;
          keys = kept_keys s.rows ns2 w.valid.rows.keys;
          operators = kept_operators s.rows ns2 w.valid.rows.operators;
        };
      };
      short = both_false
          (both_false (ap (ltb most_rows) (rows_count s.rows ns2) ∙ n.0) z.short)
          (both_false x.short y.short);
    }
