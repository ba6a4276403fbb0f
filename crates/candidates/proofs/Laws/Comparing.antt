-- Beginnings and shared beginnings, as the library's methods find them.
use mathlib.Core.Path.{◌≡◌, refl, ap, ◌∙◌}
use mathlib.Core.Bool.{Bool, true, false, cond, ◌&&◌}
use mathlib.Core.List.{List, [], ◌∷◌}
use Prim.Native.Nat.{ℕ, suc, ◌+◌}
use native.Mathlib.Omega.{arith}
use lib.Dec.{eqb}
use lib.ListN.{length, take}
use Rattle.std.specs.Cmp.Lexicographic.{pointwise}
use Rattle.std.specs.List.{zip, prefix_len}
use Rattle.chars.specs.Base.{pick}
use Rattle.candidates.specs.Beginnings.{begins, shared}
use Rattle.candidates.proofs.Laws.Chains.{both_and}

pub begins_by : (q t : List ℕ) → pointwise eqb q (take (length q) t) ≡ begins q t
unfolding begins
begins_by [] t = refl
begins_by (x ∷ q) [] = refl
begins_by (x ∷ q) (c ∷ t) = ap (λ b. eqb x c && b) (begins_by q t) ∙ both_and (eqb x c) (begins q t)

-- the pairs of the two texts as far as they are alike
longer :
    (b : Bool) (x : ℕ) (r : List ℕ) (p : ℕ × ℕ) (n : ℕ) (ps : List (ℕ × ℕ)) → length (take n ps) ≡ length r
    → length (take (cond b (1 + n) 0) (p ∷ ps)) ≡ length (pick b (x ∷ r) [])
longer true x r p n ps e =
    let s : 1 + n ≡ suc n = omega arith in
    ap (λ (k : ℕ). length (take k (p ∷ ps))) s ∙ ap suc e
longer false x r p n ps e = refl

pub shared_by :
    (s t : List ℕ)
    → length (take (prefix_len (λ (p : ℕ × ℕ). eqb p.0 p.1) (zip s t)) (zip s t)) ≡ length (shared s t)
unfolding shared
shared_by [] t = refl
shared_by (x ∷ s) [] = refl
shared_by (x ∷ s) (c ∷ t) = longer (eqb x c) x (shared s t) (x, c) _ (zip s t) (shared_by s t)
