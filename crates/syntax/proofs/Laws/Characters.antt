-- What the tests of Forms on one character come to, from facts about its number.
use mathlib.Core.Path.{◌≡◌, refl, ap, sym, ◌∙◌}
use mathlib.Core.Bool.{Bool, true, false, ◌||◌, ◌&&◌, true≢false}
use mathlib.Core.List.{[], ◌∷◌}
use Prim.Native.Nat.{ℕ, suc, ◌<◌}
use native.Mathlib.Omega.{arith}
use native.Mathlib.Decide.{dec_lt}
use lib.Dec.{ltb}
use borrow.Author.Tests.{ne_eqb, lt-ltb, le-ltb}
use Rattle.chars.specs.Base.{within, one_of}
use Rattle.chars.proofs.Laws.Tests.{inside, under, over}
use Rattle.syntax.specs.Forms.{either, is_alphanumeric, is_vendor_char, is_name_char, is_key_char, wildcard}

-- ---- letters and digits

-- a range tested from both sides at once
between : (lo hi c : ℕ) → (ltb lo c && ltb c (suc hi)) ≡ within (suc lo) hi c
between lo hi c = by (dec_lt lo c) (dec_lt c (suc hi))
  where
    by : Dec (lo < c) → Dec (c < suc hi) → (ltb lo c && ltb c (suc hi)) ≡ within (suc lo) hi c
    by (yes p) (yes q) =
        let e : (ltb lo c && ltb c (suc hi)) ≡ true = simp (lt-ltb lo c p, lt-ltb c (suc hi) q) in
        e ∙ sym (inside (suc lo) hi c (omega arith) (omega arith))
    by (yes p) (no q) =
        let e : (ltb lo c && ltb c (suc hi)) ≡ false = simp (lt-ltb lo c p, le-ltb c (suc hi) (omega arith)) in
        e ∙ sym (over (suc lo) hi c (omega arith))
    by (no p) q =
        let e : (ltb lo c && ltb c (suc hi)) ≡ false = simp (le-ltb lo c (omega arith)) in
        e ∙ sym (under (suc lo) hi c (omega arith))

one_of_three : (t u v : Bool) → ((t || u) || v) ≡ either t (either u v)
one_of_three true u v = refl
one_of_three false true v = refl
one_of_three false false v = refl

module _ (c : ℕ) where
  pub alphanumeric_tests : (((ltb 47 c && ltb c 58) || (ltb 64 c && ltb c 91)) || (ltb 96 c && ltb c 123))
      ≡ is_alphanumeric c
  unfolding is_alphanumeric
  alphanumeric_tests =
      one_of_three (ltb 47 c && ltb c 58) (ltb 64 c && ltb c 91) (ltb 96 c && ltb c 123)
      ∙ rw (between 47 57 c, between 64 90 c, between 96 122 c)

  pub alphanumeric_none : within 48 57 c ≡ false → within 65 90 c ≡ false → within 97 122 c ≡ false
      → false ≡ is_alphanumeric c
  unfolding is_alphanumeric
  alphanumeric_none p q r = rw (p, q, r)

  -- ---- what may stand beside them

  either_none : (t u : Bool) → u ≡ false → t ≡ either t u
  either_none true u e = refl
  either_none false u e = sym e

  pub vendor_rest : (c ≡ 45 → ⊥) → (c ≡ 46 → ⊥) → (c ≡ 95 → ⊥) → is_alphanumeric c ≡ is_vendor_char c
  unfolding is_vendor_char one_of
  vendor_rest p q r = either_none _ _ (rw (ne_eqb c 45 p, ne_eqb c 46 q, ne_eqb c 95 r))

  pub name_rest : one_of (42 ∷ 63 ∷ []) c ≡ false → is_vendor_char c ≡ is_name_char c
  unfolding is_name_char
  name_rest e = either_none (is_vendor_char c) (one_of (42 ∷ 63 ∷ []) c) e

  pub key_rest : (c ≡ 45 → ⊥) → (c ≡ 46 → ⊥) → (c ≡ 47 → ⊥) → (c ≡ 58 → ⊥) → (c ≡ 95 → ⊥)
      → is_alphanumeric c ≡ is_key_char c
  unfolding is_key_char one_of
  key_rest p q r s t =
      either_none _ _ (rw (ne_eqb c 45 p, ne_eqb c 46 q, ne_eqb c 47 r, ne_eqb c 58 s, ne_eqb c 95 t))

  either_first : (t u : Bool) → t ≡ true → either t u ≡ true
  either_first true u e = refl
  either_first false u e = absurd (true≢false (sym e))

  pub alphanumeric_vendor : is_alphanumeric c ≡ true → is_vendor_char c ≡ true
  unfolding is_vendor_char
  alphanumeric_vendor e = either_first (is_alphanumeric c) (one_of (45 ∷ 46 ∷ 95 ∷ []) c) e

  pub alphanumeric_name : is_alphanumeric c ≡ true → is_name_char c ≡ true
  unfolding is_name_char
  alphanumeric_name e = either_first (is_vendor_char c) (one_of (42 ∷ 63 ∷ []) c) (alphanumeric_vendor e)

  pub vendor_colon : is_vendor_char c ≡ true → c ≡ 58 → ⊥
  unfolding is_vendor_char is_alphanumeric one_of
  vendor_colon e p = true≢false (sym e ∙ ap is_vendor_char p)

  -- ---- wildcards and case

  pub wildcard_none : (c ≡ 42 → ⊥) → (c ≡ 63 → ⊥) → c ≡ wildcard c
  unfolding wildcard
  wildcard_none p q = rw (ne_eqb c 42 p, ne_eqb c 63 q)
