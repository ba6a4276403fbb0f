-- Numbers stored into a row one behind the other, and rows that are all zero.
use mathlib.Core.Path.{◌≡◌, refl, sym, ap, ◌∙◌}
use mathlib.Core.Bool.{Bool, true, false}
use mathlib.Core.List.{List, [], ◌∷◌, ◌++◌, append_assoc}
use Prim.Native.Nat.{ℕ, zero, suc, ◌+◌, ◌-◌, ◌≤◌, ◌<◌}
use native.Mathlib.Omega.{arith}
use lib.Bits.{bit_or, or_add_and, and_le_r}
use lib.Dec.{eqb}
use lib.ListN.{length, set, drop, replicate, length-append, length-replicate}
use lib.Seq.{set-append_seam}
use borrow.Author.Tests.{ne_eqb}
use borrow.Rule.Slice.PartMut.{put_mid}
use Rattle.std.proofs.lemmas.List.{drop-replicate}
use Rattle.std.specs.List.{fold}
use Rattle.chars.specs.Base.{pick}
use Rattle.candidates.specs.Rows.{row_numbers, padded, text_row, is_zero}

-- ---- stored behind what is there

abbrev pub zeros : ℕ → List ℕ
zeros n = replicate n 0

zeros_more : (n : ℕ) → 0 < n → zeros n ≡ 0 ∷ zeros (n - 1)
zeros_more n h = let e : n ≡ suc (n - 1) = omega arith in ap zeros e

pub padded_set : (xs : List ℕ) (a : ℕ) → length xs < row_numbers → set (padded xs) (length xs) a ≡ padded
    (xs ++ (a ∷ []))
unfolding padded
padded_set xs a h =
    let e : row_numbers - length xs - 1 ≡ row_numbers - length (xs ++ (a ∷ [])) = omega
    (arith, length-append xs (a ∷ [])) in
    ap (λ (l : List ℕ). set (xs ++ l) (length xs) a) (zeros_more (row_numbers - length xs) (omega arith))
    ∙ set-append_seam xs 0 (zeros (row_numbers - length xs - 1)) a
    ∙ sym (append_assoc xs (a ∷ []) (zeros (row_numbers - length xs - 1)))
    ∙ ap (λ (k : ℕ). (xs ++ (a ∷ [])) ++ zeros k) e

-- a row holds numbers so far, and zeros behind
pub record Filled (row xs : List ℕ) : Type 0 where
  pub is : row ≡ padded xs

pub filled_none : {n : ℕ} {row : List ℕ} → n ≡ row_numbers → row ≡ zeros n → Filled row []
unfolding padded
filled_none e f = record { is = f ∙ ap zeros e }

pub filled_next :
    {row xs : List ℕ} (i a : ℕ) → Filled row xs → i ≡ length xs → length xs < row_numbers
    → Filled (set row i a) (xs ++ (a ∷ []))
filled_next {row} {xs} i a w e h =
    record {
      is = ap (λ (l : List ℕ). set l i a) w.is ∙ ap (λ (k : ℕ). set (padded xs) k a) e ∙ padded_set xs a h;
    }

pub padded_length : (xs : List ℕ) → length xs ≤ row_numbers → length (padded xs) ≡ row_numbers
unfolding padded
padded_length xs h =
    let n = row_numbers - length xs in
    omega (arith, length-append xs (zeros n), length-replicate {A = ℕ} n 0)

pub filled_length : {row xs : List ℕ} → Filled row xs → length xs ≤ row_numbers → length row ≡ row_numbers
filled_length {xs = xs} w h = ap length w.is ∙ padded_length xs h

-- a text behind a mark and its length
pub text_put :
    (k : ℕ) (cs : List ℕ) {row after : List ℕ} → row ≡ padded (k ∷ length cs ∷ []) → length cs ≤ 254 → after ≡ cs
    → put_mid 2 (length cs + 2 - 2) row after ≡ text_row k cs
unfolding padded
text_put k cs {row} {after} e h f =
    let m : length cs + 2 - 2 ≡ length cs = omega arith in
    let d : drop (length cs) (zeros 254) ≡ zeros (254 - length cs) = drop-replicate (length cs) 254 0 in
    ap (λ (n : ℕ). put_mid 2 n row after) m
    ∙ ap (λ (l : List ℕ). put_mid 2 (length cs) l after) e
    ∙ ap (λ (l : List ℕ). put_mid 2 (length cs) (padded (k ∷ length cs ∷ [])) l) f
    ∙ ap (λ (l : List ℕ). k ∷ length cs ∷ (cs ++ l)) d
    ∙ ap (λ (n : ℕ). k ∷ length cs ∷ (cs ++ zeros n)) (omega arith)

-- ---- all zero

or_none : (a b : ℕ) → bit_or a b ≡ 0 → a ≡ 0
or_none a b e = omega (arith, or_add_and a b, and_le_r a b)

-- two numbers put together are zero exactly if both are
or_both : (a b : ℕ) (t : Bool) → pick (eqb (bit_or a b) 0) t false ≡ pick (eqb a 0) (pick (eqb b 0) t false) false
or_both zero b t = refl
or_both (suc a) b t =
    ap (λ (z : Bool). pick z t false) (ne_eqb (bit_or (suc a) b) 0 (λ e. omega (arith, or_none (suc a) b e)))
    ∙ ap (λ (z : Bool). pick z (pick (eqb b 0) t false) false) (sym (ne_eqb (suc a) 0 (λ e. omega arith)))

pub together : (xs : List ℕ) (a : ℕ) → eqb (fold bit_or a xs) 0 ≡ pick (eqb a 0) (is_zero xs) false
unfolding is_zero
together [] a = by (eqb a 0)
  where
    by : (z : Bool) → z ≡ pick z true false
    by true = refl
    by false = refl
together (x ∷ xs) a = together xs (bit_or a x) ∙ or_both a x (is_zero xs)
