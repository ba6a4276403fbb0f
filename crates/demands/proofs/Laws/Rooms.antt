-- Rooms whose every row is right for the values charged to its slot.
--   RowsHold ss S xs    the rows xs of the slots ss are right for S, slot by slot, and zero behind them
--   rows_fit, rows_fed, rows_met, rows_same, rows_empty    of whole rooms what Laws/Rows says of one row
use mathlib.Core.Path.{◌≡◌, refl, sym, ap, ◌∙◌, subst}
use mathlib.Core.Bool.{Bool, true, false}
use mathlib.Core.Logic.{◌⊎◌}
use mathlib.Core.List.{List, [], ◌∷◌, ◌++◌}
use Prim.Native.Nat.{ℕ, suc, ◌+◌, ◌-◌, ◌*◌, ◌≤◌}
use native.Mathlib.Omega.{arith}
use lib.ListN.{length, take, drop, length-append, length-drop, length-take, take-append-drop}
use lib.Seq.{take_at, drop_at, drop-drop}
use borrow.Author.Tests.{eq-eqb}
use Rattle.chars.specs.Base.{pick}
use Rattle.syntax.specs.Policy.{Value}
use Rattle.syntax.specs.Forms.{both}
use Rattle.decision.specs.Decision.{Found}
use Rattle.candidates.specs.Candidates.{Alike}
use Rattle.candidates.specs.Rows.{row_numbers, is_zero}
use Rattle.rooms.specs.Rooms.{Slot, fits, row_fed, fed, row_met, met}
use Rattle.rooms.specs.Walking.{Right, all_right, one_right}
use Rattle.rooms.specs.Rooms.{found_at, row_at}
use Rattle.demands.specs.Charges.{At, here, there}
use Rattle.demands.proofs.Laws.Rows.{RowHolds, empty_holds, And, row_fed_lem, row_met_lem, row_same, row_alike}
use Rattle.rooms.proofs.Laws.HandlingRows.{zero_first}
use Rattle.candidates.proofs.Laws.Rows.{zeros}
use Rattle.rooms.proofs.Laws.Empty.{zeros_zero, zeros_parted, empty_row}

-- the values charged to each slot, by its number
abbrev pub Charging : Type 1
Charging = ℕ → Value → Type 0

unfoldable pub RowsHold : List Slot → Charging → List ℕ → Type 0
RowsHold [] S xs = is_zero xs ≡ true
RowsHold (s ∷ ss) S xs = RowHolds s (S 0) (take row_numbers xs) × RowsHold ss (λ k. S (suc k)) (drop row_numbers xs)

pub rows_fit : (ss : List Slot) (S : Charging) (xs : List ℕ) → RowsHold ss S xs → fits ss xs ≡ true
unfolding RowsHold fits
rows_fit [] S xs h = h
rows_fit (s ∷ ss) S xs h =
    ap (λ (b : Bool). both b (fits ss (drop row_numbers xs))) h.0.fits_it
    ∙ rows_fit ss (λ k. S (suc k)) (drop row_numbers xs) h.1

pub rows_alike : (ss : List Slot) (S R : Charging) (xs : List ℕ) → ((k : ℕ) → Alike (S k) (R k)) → RowsHold ss S xs
    → RowsHold ss R xs
unfolding RowsHold
rows_alike [] S R xs a h = h
rows_alike (s ∷ ss) S R xs a h =
    (row_alike (a 0) h.0, rows_alike ss (λ k. S (suc k)) (λ k. R (suc k)) (drop row_numbers xs) (λ k. a (suc k)) h.1)

-- a row before others
before_others : (s : Slot) (ss : List Slot) (S : Charging) (x rest : List ℕ) → RowHolds s (S 0) x
    → RowsHold ss (λ k. S (suc k)) rest → RowsHold (s ∷ ss) S (x ++ rest)
unfolding RowsHold
before_others s ss S x rest w h = (
  subst (RowHolds s (S 0)) (sym (take_at x rest row_numbers w.size)) w,
  subst (RowsHold ss (λ k. S (suc k))) (sym (drop_at x rest row_numbers w.size)) h,
)

pub rows_fed : (ss : List Slot) (fs : List Found) (S : Charging) (xs : List ℕ) → Right ss fs → RowsHold ss S xs
    → RowsHold ss (λ k. And (S k) (found_at k fs)) (fed ss fs xs)
unfolding RowsHold fed found_at
rows_fed ss fs S xs all_right h = h
rows_fed (s ∷ ss) (f ∷ fs) S xs (one_right r q) h =
    before_others s ss (λ k. And (S k) (found_at k (f ∷ fs))) (row_fed s f (take row_numbers xs))
    (fed ss fs (drop row_numbers xs)) (row_fed_lem s (S 0) f (take row_numbers xs) r h.0)
    (rows_fed ss fs (λ k. S (suc k)) (drop row_numbers xs) q h.1)

pub rows_met : (ss : List Slot) (S R : Charging) (xs ys : List ℕ) → RowsHold ss S xs → RowsHold ss R ys
    → RowsHold ss (λ k v. S k v ⊎ R k v) (met ss xs ys)
unfolding RowsHold met
rows_met [] S R xs ys h g = h
rows_met (s ∷ ss) S R xs ys h g =
    before_others s ss (λ k v. S k v ⊎ R k v) (row_met s (take row_numbers xs) (take row_numbers ys))
    (met ss (drop row_numbers xs) (drop row_numbers ys))
    (row_met_lem s (S 0) (R 0) (take row_numbers xs) (take row_numbers ys) h.0 g.0)
    (rows_met ss (λ k. S (suc k)) (λ k. R (suc k)) (drop row_numbers xs) (drop row_numbers ys) h.1 g.1)

-- ---- zeros

zero_head : (x : ℕ) (xs : List ℕ) → is_zero (x ∷ xs) ≡ true → x ≡ 0
zero_head x xs e = zero_first (x ∷ xs) e

zero_tail : (x : ℕ) (xs : List ℕ) → is_zero (x ∷ xs) ≡ true → is_zero xs ≡ true
unfolding is_zero
zero_tail x xs e =
    sym (ap (λ (b : Bool). pick b (is_zero xs) false) (eq-eqb x 0 (zero_head x xs e))) ∙ e

zero_is : (xs : List ℕ) → is_zero xs ≡ true → xs ≡ zeros (length xs)
zero_is [] e = refl
zero_is (x ∷ xs) e =
    ap (λ (y : ℕ). y ∷ xs) (zero_head x xs e) ∙ ap (λ (l : List ℕ). 0 ∷ l) (zero_is xs (zero_tail x xs e))

pub rows_empty : (ss : List Slot) (n : ℕ) → row_numbers * length ss ≤ n → RowsHold ss (λ k v. ⊥) (zeros n)
unfolding RowsHold
rows_empty [] n h = zeros_zero n
rows_empty (s ∷ ss) n h =
    subst (RowsHold (s ∷ ss) (λ k v. ⊥)) (sym (zeros_parted n (omega (arith, h))))
    (before_others s ss (λ k v. ⊥) (zeros row_numbers) (zeros (n - row_numbers))
    (empty_holds s (λ v. ⊥) (zeros row_numbers) (λ v x. x) (sym empty_row))
    (rows_empty ss (n - row_numbers) (omega (arith, h))))

-- ---- the same values, the same numbers

pub rows_same :
    (ss : List Slot) (S R : Charging) (xs ys : List ℕ) → ((k : ℕ) → Alike (S k) (R k)) → length xs ≡ length ys
    → RowsHold ss S xs → RowsHold ss R ys → xs ≡ ys
unfolding RowsHold
rows_same [] S R xs ys a n h g = zero_is xs h ∙ ap zeros n ∙ sym (zero_is ys g)
rows_same (s ∷ ss) S R xs ys a n h g =
    sym (take-append-drop row_numbers xs)
    ∙ ap (λ (l : List ℕ). l ++ drop row_numbers xs)
    (row_same s (S 0) (R 0) (take row_numbers xs) (take row_numbers ys) (a 0) h.0 g.0)
    ∙ ap (λ (l : List ℕ). take row_numbers ys ++ l)
    (rows_same ss (λ k. S (suc k)) (λ k. R (suc k)) (drop row_numbers xs) (drop row_numbers ys) (λ k. a (suc k))
    (omega (arith, n, length-drop row_numbers xs, length-drop row_numbers ys)) h.1 g.1)
    ∙ take-append-drop row_numbers ys

-- ---- lengths

parts_length : (s : Slot) (S : Value → Type 0) (xs : List ℕ) → RowHolds s S (take row_numbers xs)
    → row_numbers + length (drop row_numbers xs) ≡ length xs
parts_length s S xs w = omega (arith, w.size, length-take row_numbers xs, length-drop row_numbers xs)

pub fed_length : (ss : List Slot) (fs : List Found) (S : Charging) (xs : List ℕ) → Right ss fs → RowsHold ss S xs
    → length (fed ss fs xs) ≡ length xs
unfolding RowsHold fed
fed_length ss fs S xs all_right h = refl
fed_length (s ∷ ss) (f ∷ fs) S xs (one_right r q) h =
    omega (
      arith,
      length-append (row_fed s f (take row_numbers xs)) (fed ss fs (drop row_numbers xs)),
      (row_fed_lem s (S 0) f (take row_numbers xs) r h.0).size,
      fed_length ss fs (λ k. S (suc k)) (drop row_numbers xs) q h.1,
      parts_length s (S 0) xs h.0,
    )

pub met_length : (ss : List Slot) (S R : Charging) (xs ys : List ℕ) → RowsHold ss S xs → RowsHold ss R ys
    → length (met ss xs ys) ≡ length xs
unfolding RowsHold met
met_length [] S R xs ys h g = refl
met_length (s ∷ ss) S R xs ys h g =
    omega (
      arith,
      length-append (row_met s (take row_numbers xs) (take row_numbers ys))
          (met ss (drop row_numbers xs) (drop row_numbers ys)),
      (row_met_lem s (S 0) (R 0) (take row_numbers xs) (take row_numbers ys) h.0 g.0).size,
      met_length ss (λ k. S (suc k)) (λ k. R (suc k)) (drop row_numbers xs) (drop row_numbers ys) h.1 g.1,
      parts_length s (S 0) xs h.0,
    )

-- ---- the row of one slot

pub rows_at : {ss : List Slot} (S : Charging) (xs : List ℕ) (k : ℕ) (s : Slot) → RowsHold ss S xs → At k ss s
    → RowHolds s (S k) (row_at k xs)
unfolding RowsHold
rows_at S xs k s h here = h.0
rows_at S xs k s h (there {k = j} i) =
    let e : row_numbers + row_numbers * j ≡ row_numbers * suc j = omega arith in
    subst (λ (l : List ℕ). RowHolds s (S (suc j)) (take row_numbers l))
    (drop-drop (row_numbers * j) row_numbers xs ∙ ap (λ (m : ℕ). drop m xs) e)
    (rows_at (λ m. S (suc m)) (drop row_numbers xs) j s h.1 i)
