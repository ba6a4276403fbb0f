-- Rows that can be written: what stands in them, and what is written for their entries.
use Prim.{Unit, tt}
use mathlib.Core.Path.{◌≡◌, refl, ap, ◌∙◌}
use mathlib.Core.List.{List, [], ◌∷◌, ◌++◌}
use Prim.Native.Nat.{ℕ, suc, ◌+◌, ◌-◌, ◌/◌, ◌%◌, ◌≤◌, ◌<◌}
use native.Mathlib.Omega.{arith}
use lib.ListN.{length, get_or, set, drop, replicate, length-append}
use lib.Seq.{lt-length-set}
use Rattle.syntax.specs.Policy.{Value, star}
use Rattle.held.specs.Held.{mark, held_text, held_number}
use Rattle.held.specs.Lying.{Lies}
use Rattle.candidates.specs.Candidates.{Candidate, itself, single, under, up_to, Content, empty, holds}
use Rattle.candidates.specs.Joining.{begun_text}
use Rattle.candidates.specs.Rows.{row_numbers, text_characters, padded, text_row, row, content_of}
use Rattle.refined.specs.Keeping.{Writable, nothing, whole, one, begun, at_most, Writ, Begun, Bounded}
use Rattle.candidates.proofs.Laws.Rows.{padded_length, padded_set}
use Rattle.candidates.proofs.Laws.Encoding.{Sized, no_row, whole_row, text_row_lem, begun_row, number_row_lem, content_row}
use Rattle.candidates.proofs.Laws.FittingText.{part, part_is}
use Rattle.candidates.proofs.Laws.Joining.{mark_by, standing}

-- ---- the size of what can be written

abbrev pub Short : Content → Type 0
Short empty = Unit {0}
Short (holds itself) = Unit {0}
Short (holds (single t)) = length t ≤ text_characters
Short (holds (under q)) = length q < text_characters
Short (holds (up_to n)) = n / 4294967296 < mark

pub short : {x : Value} {c : Content} → Writable x c → Short c
short nothing = tt
short whole = tt
short (one h) = h
short (begun h) = h
short (at_most h) = h

sized : (c : Content) → Short c → Sized c
sized empty h = no_row
sized (holds itself) h = whole_row
sized (holds (single t)) h = text_row_lem h
sized (holds (under q)) h = begun_row {q = q} (omega (arith, h))
sized (holds (up_to n)) h = number_row_lem

pub writ_content : {x : Value} {xs : List ℕ} (w : Writ x xs) → content_of xs ≡ w.content
writ_content w = ap content_of w.is ∙ content_row w.content (sized w.content (short w.writable))

pub row_size : (c : Content) → Short c → length (row c) ≡ row_numbers
unfolding row
row_size empty h = padded_length [] (omega arith)
row_size (holds itself) h = padded_length (1 ∷ []) (omega arith)
row_size (holds (single t)) h = padded_length (2 ∷ length t ∷ t) (omega (arith, h))
row_size (holds (under q)) h = padded_length (3 ∷ length q ∷ q) (omega (arith, h))
row_size (holds (up_to n)) h = padded_length (4 ∷ n / 4294967296 ∷ n % 4294967296 ∷ []) (omega arith)

pub writ_size : {x : Value} {xs : List ℕ} → Writ x xs → length xs ≡ row_numbers
writ_size w = ap length w.is ∙ row_size w.content (short w.writable)

-- ---- what stands in a row

pub row_mark : (c : Candidate) → get_or (row (holds c)) 0 0 ≡ mark_by c
unfolding row padded
row_mark itself = refl
row_mark (single t) = refl
row_mark (under q) = refl
row_mark (up_to n) = refl

-- a text lies behind its mark
pub text_lies :
    {xs : List ℕ} (k : ℕ) (t : List ℕ) → length t ≤ text_characters → xs ≡ text_row k t → Lies xs 1 (held_text t)
unfolding padded
text_lies {xs} k t h e =
    let size : length xs ≡ row_numbers = ap length e ∙ padded_length (k ∷ length t ∷ t) (omega (arith, h)) in
    record {
      behind = replicate (row_numbers - suc (suc (length t))) 0;
      is = ap (drop 1) e;
      within = omega (arith, size);
      bounded = omega (arith, size);
    }

-- ---- a beginning and its star

module _ {xs : List ℕ} (y : Begun xs) where
  abbrev starred : List ℕ
  starred = y.text ++ (star ∷ [])

  starred_short : length starred ≤ text_characters
  starred_short = omega (arith, length-append y.text (star ∷ []), y.short)

  pub begun_size : length xs ≡ row_numbers
  begun_size = ap length y.is ∙ row_size (holds (under y.text)) y.short

  pub begun_told : get_or xs 1 0 ≡ length y.text
  unfolding row padded
  begun_told = ap (λ (l : List ℕ). get_or l 1 0) y.is

  pub begun_part : part xs ≡ y.text
  begun_part = part_is xs ∙ (standing (holds (under y.text)) (begun_text (omega (arith, y.short))) y.is).text

  -- the star behind the text, and its length one more
  with_star :
      (n : ℕ) → n ≡ length y.text
      → set (set (text_row 2 y.text) (n + 2) star) 1 (n + 1) ≡ text_row 2 starred
  unfolding padded
  with_star n e =
      let t = y.text in
      let far : n + 2 ≡ suc (suc (length t)) = omega (arith, e) in
      let long : n + 1 ≡ length starred = omega (arith, e, length-append t (star ∷ [])) in
      ap (λ (k : ℕ). set (set (text_row 2 t) k star) 1 (n + 1)) far
      ∙ ap (λ (l : List ℕ). set l 1 (n + 1)) (padded_set (2 ∷ length t ∷ t) star (omega (arith, y.short)))
      ∙ ap (λ (m : ℕ). padded (2 ∷ m ∷ starred)) long

  pub star_row :
      {ys : List ℕ} → ys ≡ text_row 2 (part xs)
      → set (set ys (get_or xs 1 0 + 2) star) 1 (get_or xs 1 0 + 1) ≡ text_row 2 starred
  star_row {ys} e =
      ap (λ (l : List ℕ). set (set l (get_or xs 1 0 + 2) star) 1 (get_or xs 1 0 + 1))
      (e ∙ ap (text_row 2) begun_part) ∙ with_star (get_or xs 1 0) begun_told

  pub star_inside : {ys : List ℕ} → ys ≡ text_row 2 (part xs) → 1 < length (set ys (get_or xs 1 0 + 2) star)
  star_inside {ys} e =
      let size : length ys ≡ row_numbers
      = ap length (e ∙ ap (text_row 2) begun_part) ∙ padded_length (2 ∷ length y.text ∷ y.text)
      (omega (arith, y.short)) in
      lt-length-set ys (get_or xs 1 0 + 2) star (omega (arith, size))

  pub star_lies : {ys : List ℕ} → ys ≡ text_row 2 starred → Lies ys 1 (held_text starred)
  star_lies e = text_lies 2 starred starred_short e

-- ---- a number by its halves

module _ {xs : List ℕ} (y : Bounded xs) where
  pub bound_size : length xs ≡ row_numbers
  bound_size = ap length y.is ∙ row_size (holds (up_to y.number)) y.short

  pub bound_upper : get_or xs 1 0 ≡ y.number / 4294967296
  unfolding row padded
  bound_upper = ap (λ (l : List ℕ). get_or l 1 0) y.is

  bound_lower : get_or xs 2 0 ≡ y.number % 4294967296
  unfolding row padded
  bound_lower = ap (λ (l : List ℕ). get_or l 2 0) y.is

  pub bound_lies : Lies ((mark + get_or xs 1 0) ∷ get_or xs 2 0 ∷ []) 0 (held_number y.number)
  bound_lies =
      record {
        behind = [];
        is = ap (λ (u : ℕ). (mark + u) ∷ get_or xs 2 0 ∷ []) bound_upper
            ∙ ap (λ (l : ℕ). (mark + y.number / 4294967296) ∷ l ∷ []) bound_lower;
        within = omega arith;
        bounded = omega arith;
      }
