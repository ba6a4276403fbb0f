-- Resources: their colons counted, and their beginning.
use mathlib.Core.Path.{◌≡◌, refl, sym, ap, ◌∙◌}
use mathlib.Core.Bool.{Bool, true, false, ◌&&◌}
use mathlib.Core.List.{List, [], ◌∷◌}
use Prim.Native.Nat.{ℕ, suc, ◌+◌, ◌≤◌, ◌<◌}
use native.Mathlib.Omega.{arith}
use native.Mathlib.Decide.{ℕ_discrete}
use lib.Dec.{eqb, leb}
use lib.ListN.{length, get_or, drop, drop_of_length-le}
use Rattle.std.proofs.Common.{cond}
use Rattle.std.specs.List.{count_by, starts_with}
use Rattle.std.proofs.lemmas.List.Recursion.{is_count_by}
use Rattle.chars.specs.Base.{pick}
use borrow.Author.Tests.{eq-eqb, ne_eqb}
use Rattle.syntax.specs.Forms.{both, colons, begins_arn, is_arn}
use Rattle.syntax.proofs.Laws.Forms.{and_both, drop_next}

eqb_other : (x y : ℕ) → eqb x y ≡ eqb y x
eqb_other x y = by (ℕ_discrete x y)
  where
    by : Dec (x ≡ y) → eqb x y ≡ eqb y x
    by (yes e) = eq-eqb x y e ∙ sym (eq-eqb y x (sym e))
    by (no n) = ne_eqb x y n ∙ sym (ne_eqb y x (λ e. n (sym e)))

tested : (a b : ℕ) {t u : Bool} → t ≡ u → (eqb a b && t) ≡ both (eqb b a) u
tested a b {t} {u} e =
    and_both (eqb a b) t ∙ ap (λ (s : Bool). both s t) (eqb_other a b) ∙ ap (both (eqb b a)) e

and_true : (t : Bool) → (t && true) ≡ t
and_true true = refl
and_true false = refl

arn_begins : (cs : List ℕ) → starts_with eqb cs (97 ∷ 114 ∷ 110 ∷ 58 ∷ []) ≡ begins_arn cs
unfolding begins_arn
arn_begins [] = refl
arn_begins (a ∷ []) = tested 97 a refl
arn_begins (a ∷ b ∷ []) = tested 97 a (tested 114 b refl)
arn_begins (a ∷ b ∷ c ∷ []) = tested 97 a (tested 114 b (tested 110 c refl))
arn_begins (a ∷ b ∷ c ∷ d ∷ cs) =
    tested 97 a (tested 114 b (tested 110 c (and_true (eqb 58 d) ∙ eqb_other 58 d)))

module _ (cs : List ℕ) where
  pub arn_colons : starts_with eqb cs (97 ∷ 114 ∷ 110 ∷ 58 ∷ []) ≡ true → leb 5 (colons cs) ≡ is_arn cs
  unfolding is_arn
  arn_colons e = rw (sym (arn_begins cs) ∙ e)

  pub arn_other : starts_with eqb cs (97 ∷ 114 ∷ 110 ∷ 58 ∷ []) ≡ false → false ≡ is_arn cs
  unfolding is_arn
  arn_other e = rw (sym (arn_begins cs) ∙ e)

abbrev pub is_colon : ℕ → Bool
is_colon c = eqb c 58

one_more : (t : Bool) (n : ℕ) → pick t (suc n) n ≡ cond t (1 + n) n
one_more true n = omega arith
one_more false n = refl

pub colons_counted : (cs : List ℕ) → colons cs ≡ count_by is_colon cs
unfolding colons
colons_counted = is_count_by colons is_colon refl (λ c cs. one_more (is_colon c) (colons cs))

module _ (cs : List ℕ) (i : ℕ) where
  pub colons_one : i < length cs → get_or cs i 0 ≡ 58 → colons (drop i cs) ≡ suc (colons (drop (i + 1) cs))
  unfolding colons
  colons_one h e = ap colons (drop_next cs i h) ∙ rw (eq-eqb (get_or cs i 0) 58 e)

  pub colons_other : i < length cs → (get_or cs i 0 ≡ 58 → ⊥) → colons (drop i cs) ≡ colons (drop (i + 1) cs)
  unfolding colons
  colons_other h n = ap colons (drop_next cs i h) ∙ rw (ne_eqb (get_or cs i 0) 58 n)

  pub colons_end : length cs ≤ i → colons (drop i cs) ≡ 0
  unfolding colons
  colons_end h = ap colons (drop_of_length-le cs h)

-- what the count keeps
pub record Counting (cs : List ℕ) (n i : ℕ) : Type 0 where
  pub is : n + colons (drop i cs) ≡ colons cs
  pub low : n ≤ i

pub counting_start : (cs : List ℕ) → Counting cs 0 0
counting_start cs = record { is = omega arith; low = omega arith }

module _ {cs : List ℕ} {n i : ℕ} (p : Counting cs n i) (h : i < length cs) where
  pub counting_one : {m : ℕ} → get_or cs i 0 ≡ 58 → m ≡ n + 1 → Counting cs m (i + 1)
  counting_one e k =
      record { is = omega (arith, p.is, colons_one cs i h e); low = omega (arith, p.low) }

  pub counting_other : {m : ℕ} → (get_or cs i 0 ≡ 58 → ⊥) → m ≡ n → Counting cs m (i + 1)
  counting_other e k =
      record { is = omega (arith, p.is, colons_other cs i h e); low = omega (arith, p.low) }

pub counting_end : {cs : List ℕ} {n i : ℕ} → Counting cs n i → length cs ≤ i → n ≡ colons cs
counting_end {cs} {n} {i} p h = omega (arith, p.is, colons_end cs i h)
