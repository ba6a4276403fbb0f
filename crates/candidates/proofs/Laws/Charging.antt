-- The longest beginning that passes, looked for from the longest one on.
use mathlib.Core.Path.{◌≡◌, refl, sym, ap, ◌∙◌}
use mathlib.Core.Bool.{Bool, true, false}
use mathlib.Core.List.{List, [], ◌∷◌}
use Prim.Native.Nat.{ℕ, zero, suc, ◌-◌, ◌≤◌, ◌<◌}
use native.Mathlib.Omega.{arith}
use lib.ListN.{length, take}
use Rattle.chars.specs.Base.{pick}
use Rattle.candidates.specs.Candidates.{Candidate, under, holds}
use Rattle.candidates.specs.Beginnings.{longest_up_to, longest}
use Rattle.candidates.specs.Rows.{padded, row}
use Rattle.candidates.proofs.Laws.Fitting.{under_row}

module _ (wide : List ℕ → Bool) (t : List ℕ) where
  -- no longer one passes
  pub record Looking (n : ℕ) : Type 0 where
    pub same : longest_up_to wide n t ≡ longest wide t

  pub looking_start : Looking (length t)
  looking_start = record { same = refl }

  step : (n : ℕ) → 0 < n → longest_up_to wide n t ≡ pick (wide (take n t)) (under (take n t)) (longest_up_to wide (n - 1) t)
  unfolding longest_up_to
  step zero h = absurd (omega (arith, h))
  step (suc n) h =
      let e : suc n - 1 ≡ n = omega arith in
      ap (λ (k : ℕ). pick (wide (take (suc n) t)) (under (take (suc n) t)) (longest_up_to wide k t)) (sym e)

  module _ {n : ℕ} (w : Looking n) where
    pub looking_next : 0 < n → wide (take n t) ≡ false → Looking (n - 1)
    looking_next h f =
        record {
          same = sym (ap (λ (b : Bool). pick b (under (take n t)) (longest_up_to wide (n - 1) t)) f)
              ∙ sym (step n h) ∙ w.same;
        }

    pub looking_found :
        {out : List ℕ} → 0 < n → wide (take n t) ≡ true
        → out ≡ padded (3 ∷ length (take n t) ∷ take n t) → out ≡ row (holds (longest wide t))
    looking_found h f g =
        let found = sym (ap (λ (b : Bool). pick b (under (take n t)) (longest_up_to wide (n - 1) t)) f)
        ∙ sym (step n h) ∙ w.same in
        g ∙ sym (under_row (take n t)) ∙ ap (λ (c : Candidate). row (holds c)) found

    pub looking_none : {out : List ℕ} → n ≤ 0 → out ≡ padded (1 ∷ []) → out ≡ row (holds (longest wide t))
    unfolding longest_up_to row
    looking_none h g =
        let e : n ≡ 0 = omega (arith, h) in
        g ∙ ap (λ (c : Candidate). row (holds c)) (ap (λ (k : ℕ). longest_up_to wide k t) (sym e) ∙ w.same)
