-- The numbers of a row against what they would be written as again: what stands first, and zeros behind.
use mathlib.Core.Path.{◌≡◌, refl, sym, ap, ◌∙◌}
use mathlib.Core.Bool.{Bool, true, false}
use mathlib.Core.List.{List, [], ◌∷◌, ◌++◌}
use Prim.Native.Nat.{ℕ, zero, suc, ◌+◌, ◌-◌, ◌≤◌, ◌<◌}
use native.Mathlib.Omega.{arith}
use lib.Dec.{eqb}
use lib.ListN.{length, get_or, take, drop, length-drop, length-take}
use lib.Seq.{length-take-le}
use borrow.Author.Tests.{eq-eqb, ne_eqb}
use Rattle.chars.specs.Base.{pick}
use Rattle.syntax.specs.Forms.{both, same}
use Rattle.syntax.proofs.Laws.Forms.{drop_next}
use Rattle.candidates.specs.Candidates.{Candidate, itself, single, under, Content, empty, holds, Kind}
use Rattle.candidates.specs.Candidates.{is_content}
use Rattle.candidates.specs.Beginnings.{begins}
use Rattle.candidates.specs.Rows.{row_numbers, padded, is_zero, row, content_of, is_row, text_in}
use Rattle.candidates.proofs.Laws.Rows.{zeros}
use Rattle.candidates.proofs.Laws.Forming.{both_no, both_yes}

zero_first : (x : ℕ) (t : Bool) → both (eqb 0 x) t ≡ pick (eqb x 0) t false
zero_first zero t = refl
zero_first (suc x) t =
    ap (λ (b : Bool). both b t) (ne_eqb 0 (suc x) (λ e. omega (arith, e)))
    ∙ sym (ap (λ (b : Bool). pick b t false) (ne_eqb (suc x) 0 (λ e. omega (arith, e))))

same_zeros : (k : ℕ) (xs : List ℕ) → length xs ≡ k → same (zeros k) xs ≡ is_zero xs
unfolding same is_zero
same_zeros zero [] e = refl
same_zeros zero (x ∷ xs) e = absurd (omega (arith, e))
same_zeros (suc k) [] e = absurd (omega (arith, e))
same_zeros (suc k) (x ∷ xs) e =
    ap (both (eqb 0 x)) (same_zeros k xs (omega (arith, e))) ∙ zero_first x (is_zero xs)

both_assoc : (a b c : Bool) → both a (both b c) ≡ both (both a b) c
both_assoc true b c = refl
both_assoc false b c = refl

same_before :
    (zs : List ℕ) (k : ℕ) (xs : List ℕ) → length xs ≡ length zs + k
    → same (zs ++ zeros k) xs ≡ both (begins zs xs) (is_zero (drop (length zs) xs))
unfolding same begins
same_before [] k xs e = same_zeros k xs (omega (arith, e))
same_before (z ∷ zs) k [] e = absurd (omega (arith, e))
same_before (z ∷ zs) k (x ∷ xs) e =
    ap (both (eqb z x)) (same_before zs k xs (omega (arith, e)))
    ∙ both_assoc (eqb z x) (begins zs xs) (is_zero (drop (length zs) xs))

pub padded_same :
    (zs xs : List ℕ) → length xs ≡ row_numbers → length zs ≤ row_numbers
    → same (padded zs) xs ≡ both (begins zs xs) (is_zero (drop (length zs) xs))
unfolding padded
padded_same zs xs e h = same_before zs (row_numbers - length zs) xs (omega (arith, e, h))

-- ---- by the first number

module _ (k : Kind) (xs : List ℕ) (size : length xs ≡ row_numbers) where
  abbrev mark : ℕ
  mark = get_or xs 0 0

  -- the test, once the content is known
  pub known : (c : Content) → content_of xs ≡ c → is_row k xs ≡ both (is_content k c) (same (row c) xs)
  unfolding is_row
  known c e = ap (λ (d : Content). both (is_content k d) (same (row d) xs)) e

  pub row_zero : mark ≡ 0 → is_zero xs ≡ is_row k xs
  unfolding content_of row begins
  row_zero e =
      let c : content_of xs ≡ empty = rw (eq-eqb mark 0 e) refl in
      sym (known empty c ∙ padded_same [] xs size (omega arith))

  pub begins_mark : (m : ℕ) (zs : List ℕ) → mark ≡ m → begins (m ∷ zs) xs ≡ begins zs (drop 1 xs)
  unfolding begins
  begins_mark m zs e =
      ap (begins (m ∷ zs)) (drop_next xs 0 (omega (arith, size)))
      ∙ ap (λ (b : Bool). both b (begins zs (drop 1 xs))) (eq-eqb m mark (sym e))

  abbrev held_itself : Content
  held_itself = holds itself

  pub itself_is : mark ≡ 1 → content_of xs ≡ held_itself
  unfolding content_of
  itself_is e = rw (ne_eqb mark 0 (λ z. omega (arith, e, z)), eq-eqb mark 1 e) refl

  pub row_itself : mark ≡ 1 → k.is itself ≡ true → is_zero (drop 1 xs) ≡ is_row k xs
  unfolding row begins
  row_itself e i =
      sym (known held_itself (itself_is e)
      ∙ ap (λ (b : Bool). both b (same (padded (1 ∷ [])) xs)) i
      ∙ padded_same (1 ∷ []) xs size (omega arith)
      ∙ ap (λ (b : Bool). both b (is_zero (drop 1 xs))) (begins_mark 1 [] e))

-- ---- a text behind its length

begins_part : (n : ℕ) (ys : List ℕ) → begins (take n ys) ys ≡ true
unfolding begins
begins_part zero ys = refl
begins_part (suc n) [] = refl
begins_part (suc n) (y ∷ ys) = ap (λ (b : Bool). both b (begins (take n ys) ys)) (eq-eqb y y refl) ∙ begins_part n ys

module _ (k : Kind) (xs : List ℕ) (size : length xs ≡ row_numbers) (m : ℕ) (f : List ℕ → Candidate)
    (first : get_or xs 0 0 ≡ m) (content : content_of xs ≡ holds (f (text_in xs)))
    (rows : (t : List ℕ) → row (holds (f t)) ≡ padded (m ∷ length t ∷ t)) where
  abbrev inside : List ℕ
  inside = text_in xs

  abbrev told : ℕ
  told = get_or xs 1 0

  behind_size : length (drop 2 xs) ≡ 254
  behind_size = omega (arith, length-drop 2 xs, size)

  text_short : length inside ≤ 254
  text_short = omega (arith, length-take told (drop 2 xs), behind_size)

  length_test : begins (m ∷ length inside ∷ inside) xs ≡ eqb (length inside) told
  unfolding begins
  length_test =
      begins_mark k xs size m (length inside ∷ inside) first
      ∙ ap (begins (length inside ∷ inside)) (drop_next xs 1 (omega (arith, size)))
      ∙ ap (both (eqb (length inside) told)) (begins_part told (drop 2 xs)) ∙ both_yes (eqb (length inside) told)

  tested : is_row k xs ≡ both (k.is (f inside))
      (both (eqb (length inside) told) (is_zero (drop (suc (suc (length inside))) xs)))
  tested =
      known k xs size (holds (f inside)) content
      ∙ ap (λ (l : List ℕ). both (k.is (f inside)) (same l xs)) (rows inside)
      ∙ ap (both (k.is (f inside))) (padded_same (m ∷ length inside ∷ inside) xs size (omega (arith, text_short)))
      ∙ ap (λ (b : Bool). both (k.is (f inside)) (both b (is_zero (drop (suc (suc (length inside))) xs)))) length_test

  pub text_row_long : 254 < told → false ≡ is_row k xs
  text_row_long h =
      sym (tested
      ∙ ap (λ (b : Bool). both (k.is (f inside)) (both b (is_zero (drop (suc (suc (length inside))) xs))))
      (ne_eqb (length inside) told (λ e. omega (arith, e, text_short)))
      ∙ both_no (k.is (f inside)))

  pub text_row_lem : told ≤ 254 → is_row k xs ≡ both (k.is (f inside)) (is_zero (drop (told + 2) xs))
  text_row_lem h =
      let e : length inside ≡ told = length-take-le told (drop 2 xs) (omega (arith, behind_size)) in
      let g : suc (suc (length inside)) ≡ told + 2 = omega (arith, e) in
      tested
      ∙ ap (λ (b : Bool). both (k.is (f inside)) (both b (is_zero (drop (suc (suc (length inside))) xs))))
      (eq-eqb (length inside) told e)
      ∙ ap (λ (n : ℕ). both (k.is (f inside)) (is_zero (drop n xs))) g

-- the two contents that have a text
module _ (xs : List ℕ) where
  pub single_is : get_or xs 0 0 ≡ 2 → content_of xs ≡ holds (single (text_in xs))
  unfolding content_of
  single_is e =
      rw (
        ne_eqb (get_or xs 0 0) 0 (λ z. omega (arith, e, z)),
        ne_eqb (get_or xs 0 0) 1 (λ z. omega (arith, e, z)),
        eq-eqb (get_or xs 0 0) 2 e,
      ) refl

  pub under_is : get_or xs 0 0 ≡ 3 → content_of xs ≡ holds (under (text_in xs))
  unfolding content_of
  under_is e =
      rw (
        ne_eqb (get_or xs 0 0) 0 (λ z. omega (arith, e, z)),
        ne_eqb (get_or xs 0 0) 1 (λ z. omega (arith, e, z)),
        ne_eqb (get_or xs 0 0) 2 (λ z. omega (arith, e, z)),
        eq-eqb (get_or xs 0 0) 3 e,
      ) refl

pub single_row : (t : List ℕ) → row (holds (single t)) ≡ padded (2 ∷ length t ∷ t)
unfolding row
single_row t = refl

pub under_row : (t : List ℕ) → row (holds (under t)) ≡ padded (3 ∷ length t ∷ t)
unfolding row
under_row t = refl
