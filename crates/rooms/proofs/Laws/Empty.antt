-- Empty rows and empty rooms: zeros, and they fit.
use mathlib.Core.Path.{◌≡◌, refl, sym, ap, ◌∙◌}
use mathlib.Core.Bool.{true}
use mathlib.Core.List.{List, [], ◌∷◌, ◌++◌}
use Prim.Native.Nat.{ℕ, zero, suc, ◌+◌, ◌-◌, ◌*◌, ◌≤◌}
use native.Mathlib.Omega.{arith}
use native.Mathlib.Nat.{zero-add, suc-add}
use lib.ListN.{length}
use Rattle.chars.specs.Base.{pick}
use Rattle.syntax.specs.Policy.{Effect, Allow, Deny}
use Rattle.decision.specs.Decision.{same_effect}
use Rattle.candidates.specs.Candidates.{empty}
use Rattle.candidates.specs.Rows.{row_numbers, padded, row, is_row, is_zero}
use Rattle.candidates.proofs.Laws.Rows.{zeros}
use Rattle.rooms.specs.Rooms.{Slot, slot_kind, row_fits, fits}
use Rattle.rooms.proofs.Laws.Fed.{made_fits, before_fits}

pub empty_size : length (row empty) ≡ row_numbers
unfolding row padded
empty_size = refl

empty_zero : is_zero (row empty) ≡ true
unfolding row padded is_zero
empty_zero = refl

pub empty_fits : (s : Slot) → row_fits s (row empty) ≡ true
empty_fits s = by s.effect refl
  where
    by : (e : Effect) → s.effect ≡ e → row_fits s (row empty) ≡ true
    by Allow e = made_fits s empty e refl empty_size
    by Deny e =
        ap (λ (f : Effect). pick (same_effect f Allow) (is_row (slot_kind s) (row empty)) (is_zero (row empty))) e ∙ empty_zero

pub zeros_zero : (n : ℕ) → is_zero (zeros n) ≡ true
unfolding is_zero
zeros_zero zero = refl
zeros_zero (suc n) = zeros_zero n

zeros_add : (n m : ℕ) → zeros (n + m) ≡ zeros n ++ zeros m
zeros_add zero m = ap zeros (zero-add m)
zeros_add (suc n) m = ap zeros (suc-add n m) ∙ ap (λ (l : List ℕ). 0 ∷ l) (zeros_add n m)

pub empty_row : row empty ≡ zeros row_numbers
unfolding row padded
empty_row = refl

pub zeros_parted : (n : ℕ) → row_numbers ≤ n → zeros n ≡ zeros row_numbers ++ zeros (n - row_numbers)
zeros_parted n h =
    let e : row_numbers + (n - row_numbers) ≡ n = omega (arith, h) in
    ap zeros (sym e) ∙ zeros_add row_numbers (n - row_numbers)

pub zeros_fit : (ss : List Slot) (n : ℕ) → row_numbers * length ss ≤ n → fits ss (zeros n) ≡ true
unfolding fits
zeros_fit [] n h = zeros_zero n
zeros_fit (s ∷ ss) n h =
    ap (fits (s ∷ ss)) (zeros_parted n (omega (arith, h)))
    ∙ before_fits s ss (zeros row_numbers) (zeros (n - row_numbers)) (ap length (sym empty_row) ∙ empty_size)
    (ap (row_fits s) (sym empty_row) ∙ empty_fits s) (zeros_fit ss (n - row_numbers) (omega (arith, h)))
