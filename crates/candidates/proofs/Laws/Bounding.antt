-- Rows that hold numbers: what stands in them, and the greater of two.
use mathlib.Core.Path.{◌≡◌, refl, sym, ap, ◌∙◌, subst}
use mathlib.Core.Bool.{Bool, true, false}
use mathlib.Core.List.{List, [], ◌∷◌}
use Prim.Native.Nat.{ℕ, ◌/◌, ◌%◌, ◌≤◌, ◌<◌}
use native.Mathlib.Nat.{div-add-mod'}
use native.Mathlib.Omega.{arith}
use lib.Dec.{leb}
use lib.ListN.{length, get_or}
use borrow.Author.Tests.{le-leb, lt-leb}
use Rattle.chars.specs.Base.{pick}
use Rattle.syntax.specs.Policy.{number}
use Rattle.candidates.specs.Candidates.{up_to, Content, empty, holds, joined, charged}
use Rattle.candidates.specs.Kinds.{bounds}
use Rattle.candidates.specs.Rows.{row_numbers, padded, number_row, row, number_in}
use Rattle.candidates.specs.Joining.{Numeric, no_number, one_number, Numbered}
use Rattle.candidates.proofs.Laws.Rows.{padded_length}
use Rattle.candidates.proofs.Laws.Joining.{joined_nothing}

number_row_lem : (n : ℕ) → number_row 4 n ≡ row (holds (up_to n))
unfolding row
number_row_lem n = refl

-- ---- what stands in a row

pub data Counted (xs : List ℕ) : Content → Type 0 where
  counts_none : length xs ≡ row_numbers → get_or xs 0 0 ≡ 0 → Counted xs empty
  counts_one : {n : ℕ} → length xs ≡ row_numbers → get_or xs 0 0 ≡ 4 → number_in xs ≡ n → Counted xs (holds (up_to n))

of_row : (c : Content) → Numeric c → Counted (row c) c
unfolding row padded
of_row c no_number = counts_none refl refl
of_row c (one_number {n}) =
    counts_one (padded_length (4 ∷ n / 4294967296 ∷ n % 4294967296 ∷ []) (omega arith)) refl (div-add-mod' n 4294967296)

pub counted : {xs : List ℕ} (c : Content) → Numeric c → xs ≡ row c → Counted xs c
counted {xs} c t e = subst (λ (l : List ℕ). Counted l c) (sym e) (of_row c t)

pub counts : {xs : List ℕ} (w : Numbered xs) → Counted xs w.content
counts w = counted w.content w.numeric w.is

pub counted_size : {xs : List ℕ} {c : Content} → Counted xs c → length xs ≡ row_numbers
counted_size (counts_none e z) = e
counted_size (counts_one e m v) = e

-- ---- charged

module _ (k n : ℕ) {out : List ℕ} where
  pub bound_first : {xs : List ℕ} (c : Content) → Counted xs c → get_or xs 0 0 ≡ 0 → out ≡ number_row 4 n
      → out ≡ row (charged (bounds leb k) c (number n))
  bound_first c (counts_none e z) h g = g ∙ number_row_lem n
  bound_first c (counts_one e m v) h g = absurd (omega (arith, h, m))

  pub bound_kept : {xs : List ℕ} (c : Content) → Counted xs c → (get_or xs 0 0 ≡ 0 → ⊥) → {m : ℕ} → m ≡ number_in xs
      → n < m → out ≡ row c → out ≡ row (charged (bounds leb k) c (number n))
  bound_kept c (counts_none e z) s q h g = absurd (s z)
  bound_kept c (counts_one {n = b} e m v) s q h g =
      let l : leb b n ≡ false = lt-leb b n (omega (arith, h, q, v)) in
      g ∙ ap (λ (t : Bool). row (holds (up_to (pick t n b)))) (sym l)

  pub bound_raised : {xs : List ℕ} (c : Content) → Counted xs c → (get_or xs 0 0 ≡ 0 → ⊥) → {m : ℕ} → m ≡ number_in xs
      → m ≤ n → out ≡ number_row 4 n → out ≡ row (charged (bounds leb k) c (number n))
  bound_raised c (counts_none e z) s q h g = absurd (s z)
  bound_raised c (counts_one {n = b} e m v) s q h g =
      let l : leb b n ≡ true = le-leb b n (omega (arith, h, q, v)) in
      g ∙ number_row_lem n ∙ ap (λ (t : Bool). row (holds (up_to (pick t n b)))) (sym l)

-- ---- joined

module _ (k : ℕ) {out : List ℕ} (c : Content) where
  pub join_kept : {ys : List ℕ} (d : Content) → Counted ys d → get_or ys 0 0 ≡ 0 → out ≡ row c
      → out ≡ row (joined (bounds leb k) c d)
  join_kept d (counts_none e z) h g = g ∙ ap row (sym (joined_nothing (bounds leb k) c))
  join_kept d (counts_one e m v) h g = absurd (omega (arith, h, m))

  pub join_charged : {ys : List ℕ} (d : Content) → Counted ys d → (get_or ys 0 0 ≡ 0 → ⊥) → {n : ℕ} → n ≡ number_in ys
      → out ≡ row (charged (bounds leb k) c (number n)) → out ≡ row (joined (bounds leb k) c d)
  join_charged d (counts_none e z) s q g = absurd (s z)
  join_charged d (counts_one {n = b} e m v) s q g =
      g ∙ ap (λ (x : ℕ). row (joined (bounds leb k) c (holds (up_to x)))) (q ∙ v)
