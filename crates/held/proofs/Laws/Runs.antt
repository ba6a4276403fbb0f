-- What lies in a run: numbers and texts, one behind the other.
use mathlib.Core.Path.{◌≡◌, refl, sym, ap, ◌∙◌, subst}
use mathlib.Core.Bool.{Bool, true, false, ◌||◌}
use mathlib.Core.List.{List, [], ◌∷◌, ◌++◌, append_assoc}
use Prim.Native.Nat.{ℕ, suc, ◌+◌, ◌-◌, ◌≤◌, ◌<◌}
use native.Mathlib.Omega.{arith}
use lib.Dec.{ltb}
use lib.ListN.{length, get_or, take, drop, length-append, length-drop}
use lib.Seq.{drop-drop, drop-append_seam, take_at}
use borrow.Rule.Slice.PartMut.{mid_of}
use Rattle.syntax.specs.Forms.{either}
use Rattle.syntax.specs.Policy.{Value, text, number, Row}
use Rattle.syntax.specs.Limits.{run_numbers, entry_characters, key_characters, most_rows}
use Rattle.held.specs.Held.{held_text, held_each, held_value, held_list, held_row, mark}
use Rattle.held.specs.Held.{any_of, long_value, row_over, rows_over, row_entries}
use Rattle.held.specs.Lying.{Lies, Lying, LyingMany, Passes}
use Rattle.held.specs.declared.runs.Seen.{Seen}
use Rattle.syntax.proofs.Laws.Forms.{drop_next}

-- ---- numbers

module _ {run : List ℕ} {p : ℕ} where
  pub lies_end : {xs : List ℕ} → Lies run p xs → p + length xs ≤ length run
  lies_end {xs} l =
      omega (arith, l.within, length-drop p run, ap length l.is, length-append xs l.behind)

  pub lies_short : {xs : List ℕ} → Lies run p xs → length xs ≤ run_numbers
  lies_short l = omega (arith, lies_end l, l.bounded)

  pub lies_inside : {x : ℕ} {xs : List ℕ} → Lies run p (x ∷ xs) → p < length run
  lies_inside l = omega (arith, lies_end l)

  pub lies_first : {x : ℕ} {xs : List ℕ} → Lies run p (x ∷ xs) → get_or run p 0 ≡ x
  lies_first l =
      let e = sym (drop_next run p (lies_inside l)) ∙ l.is in
      cc

  pub lies_front : (xs ys : List ℕ) → Lies run p (xs ++ ys) → Lies run p xs
  lies_front xs ys l =
      record {
        behind = ys ++ l.behind;
        is = l.is ∙ append_assoc xs ys l.behind;
        within = l.within;
        bounded = l.bounded;
      }

  pub lies_back : (xs ys : List ℕ) → Lies run p (xs ++ ys) → Lies run (p + length xs) ys
  lies_back xs ys l =
      record {
        behind = l.behind;
        is = sym (drop-drop (length xs) p run)
            ∙ ap (drop (length xs)) (l.is ∙ append_assoc xs ys l.behind)
            ∙ drop-append_seam xs (ys ++ l.behind);
        within = lies_end (lies_front xs ys l);
        bounded = l.bounded;
      }

  pub lies_next : {x : ℕ} {xs : List ℕ} → Lies run p (x ∷ xs) → Lies run (p + 1) xs
  lies_next {x} {xs} l = lies_back (x ∷ []) xs l

  pub lies_part : {xs : List ℕ} {e : ℕ} → Lies run p xs → e ≡ p + length xs → mid_of p (e - p) run ≡ xs
  lies_part {xs} {e} l q = ap (take (e - p)) l.is ∙ take_at xs l.behind (e - p) (omega arith)

-- ---- a number before things

pub list_lying :
    {A : Type 0} {h : A → List ℕ} {run : List ℕ} {p : ℕ}
    → Lying (held_list h) run p → LyingMany h run (p + 1) (get_or run p 0)
list_lying y = record { things = y.thing; count = lies_first y.lies; lies = lies_next y.lies }

-- as many numbers as things at least
pub list_long :
    {A : Type 0} (h : A → List ℕ) → ((x : A) → 1 ≤ length (h x)) → (xs : List A) → length xs ≤ length (held_each h xs)
unfolding held_each
list_long h s [] = omega arith
list_long h s (x ∷ xs) = omega (arith, s x, list_long h s xs, length-append (h x) (held_each h xs))

-- ---- a number, a text behind its length, and more

-- the numbers behind the length at the next place, as many as it says
abbrev pub text_at : List ℕ → ℕ → List ℕ
text_at run p = mid_of (p + 2) (p + 2 + get_or run (p + 1) 0 - (p + 2)) run

pub record Named (run : List ℕ) (p : ℕ) (cs ys : List ℕ) : Type 0 where
  pub inside : p + 1 < length run
  pub count : get_or run (p + 1) 0 ≡ length cs
  pub ends : p + 2 + get_or run (p + 1) 0 ≤ length run
  pub bounded : length run ≤ run_numbers
  pub is : text_at run p ≡ cs
  pub rest : Lies run (p + 2 + get_or run (p + 1) 0) ys

pub named :
    {run : List ℕ} {p x : ℕ} (cs ys : List ℕ) → Lies run p (x ∷ (held_text cs ++ ys)) → Named run p cs ys
named {run} {p} {x} cs ys l =
    let a : Lies run (p + 1) (length cs ∷ (cs ++ ys)) = lies_next l in
    let far : p + 1 + 1 ≡ p + 2 = omega arith in
    let b : Lies run (p + 2) (cs ++ ys) = subst (λ (q : ℕ). Lies run q (cs ++ ys)) far (lies_next a) in
    let f = lies_front cs ys b in
    let e : p + 2 + get_or run (p + 1) 0 ≡ p + 2 + length cs = ap (λ (k : ℕ). p + 2 + k) (lies_first a) in
    record {
      inside = lies_inside a;
      count = lies_first a;
      ends = omega (arith, lies_end f);
      bounded = l.bounded;
      is = lies_part f e;
      rest = subst (λ (q : ℕ). Lies run q ys) (sym e) (lies_back cs ys b);
    }

pub named_past :
    {run : List ℕ} {p past : ℕ} {cs ys : List ℕ} → Named run p cs ys
    → past ≡ p + 2 + get_or run (p + 1) 0 + length ys → past ≡ p + suc (length (held_text cs ++ ys))
named_past {cs = cs} {ys = ys} y e = omega (arith, y.count, length-append cs ys)

pub named_both :
    (f : List ℕ → List ℕ → Bool) {run : List ℕ} {p q : ℕ} {cs ds ys zs : List ℕ}
    → Named run p cs ys → Named run q ds zs → f (text_at run p) (text_at run q) ≡ f cs ds
named_both f {run} {q = q} {cs = cs} x y =
    ap (λ (l : List ℕ). f l (text_at run q)) x.is ∙ ap (f cs) y.is

-- ---- limits

or_is : (t u : Bool) → (t || u) ≡ either t u
or_is true u = refl
or_is false u = refl

pub or_either : {t u v w : Bool} → t ≡ v → u ≡ w → (t || u) ≡ either v w
or_either {t} {u} {v} {w} e f = or_is t u ∙ ap (λ (b : Bool). either b u) e ∙ ap (either v) f

-- ---- values

pub value_long : (x : Value) → 1 ≤ length (held_value x)
value_long (text cs) = omega arith
value_long (number n) = omega arith

module _ {run : List ℕ} {p : ℕ} where
  pub value_inside : (x : Value) → Lies run p (held_value x) → p < length run
  value_inside (text cs) l = lies_inside l
  value_inside (number n) l = lies_inside l

  pub number_passes :
      (x : Value) → Lies run p (held_value x) → mark ≤ get_or run p 0
      → Passes p (held_value x) 1 (long_value x) (record { past = p + 2; entries = 1; over = false })
  number_passes (text cs) l h = absurd (omega (arith, lies_first l, lies_short l))
  number_passes (number n) l h = record { past = refl; many = refl; limit = refl }

-- ---- rows

pub row_long : (x : Row) → length x.entries ≤ length (held_row x)
unfolding held_row
row_long x =
    omega (
      arith,
      list_long held_value value_long x.entries,
      length-append (held_text x.key) (held_list held_value x.entries),
    )

module _ {run : List ℕ} {p : ℕ} (x : Row) (l : Lies run p (held_row x)) where
  pub row_named : Named run p x.key (held_list held_value x.entries)
  unfolding held_row
  row_named = named x.key (held_list held_value x.entries) l

  pub row_passes :
      (r : Seen) → Passes (p + 2 + get_or run (p + 1) 0) (held_list held_value x.entries) (length x.entries)
      (any_of long_value x.entries) r
      → Passes p (held_row x) (length x.entries) (row_over x)
      (record { past = r.past; entries = r.entries; over = ltb key_characters (get_or run (p + 1) 0) || r.over })
  unfolding held_row row_over
  row_passes r q =
      record {
        past = named_past row_named q.past;
        many = q.many;
        limit = or_either (ap (ltb key_characters) row_named.count) q.limit;
      }

pub rows_pass :
    {p k : ℕ} (xs : List Row) (r : Seen) → k ≡ length xs
    → Passes (p + 1) (held_each held_row xs) (row_entries xs) (any_of row_over xs) r
    → Passes p (held_list held_row xs) (row_entries xs) (rows_over xs)
    (record { past = r.past; entries = r.entries; over = ltb most_rows k || r.over })
unfolding rows_over
rows_pass xs r e q =
    record {
      past = omega (arith, q.past);
      many = q.many;
      limit = or_either (ap (ltb most_rows) e) q.limit;
    }
