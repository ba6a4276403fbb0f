-- The items of a number: each test on the byte picks one branch of the move.
use mathlib.Core.Path.{◌≡◌}
use mathlib.Core.List.{[], ◌∷◌}
use Prim.Native.Nat.{ℕ, ◌≤◌, ◌<◌}
use native.Mathlib.Omega.{arith}
use borrow.Author.Tests.{eq-eqb, ne_eqb}
use types.Run.{OneOf}
use Rattle.text.specs.Machine.{pass, bad, go, digits, digit, integer, fraction, exponent, sign, move}
use Rattle.chars.proofs.Laws.Tests.{inside, under, over, among, outside}

module _ (b : ℕ) where
  pub digits_is : 48 ≤ b → b < 58 → move digits b ≡ go (digits ∷ [])
  unfolding move
  digits_is p q = rw (inside 48 57 b p (omega arith))

  pub digits_under : b < 48 → move digits b ≡ pass
  unfolding move
  digits_under p = rw (under 48 57 b p)

  pub digits_over : 57 < b → move digits b ≡ pass
  unfolding move
  digits_over p = rw (over 48 57 b p)

  pub digit_is : 48 ≤ b → b < 58 → move digit b ≡ go []
  unfolding move
  digit_is p q = rw (inside 48 57 b p (omega arith))

  pub digit_under : b < 48 → move digit b ≡ bad
  unfolding move
  digit_under p = rw (under 48 57 b p)

  pub digit_over : 57 < b → move digit b ≡ bad
  unfolding move
  digit_over p = rw (over 48 57 b p)

  pub sign_is : OneOf (43 ∷ 45 ∷ []) b → move sign b ≡ go []
  unfolding move
  sign_is h = rw (among (43 ∷ 45 ∷ []) b h)

  pub sign_not : (OneOf (43 ∷ 45 ∷ []) b → ⊥) → move sign b ≡ pass
  unfolding move
  sign_not h = rw (outside (43 ∷ 45 ∷ []) b h)

  pub exponent_is : OneOf (69 ∷ 101 ∷ []) b → move exponent b ≡ go (sign ∷ digit ∷ digits ∷ [])
  unfolding move
  exponent_is h = rw (among (69 ∷ 101 ∷ []) b h)

  pub exponent_not : (OneOf (69 ∷ 101 ∷ []) b → ⊥) → move exponent b ≡ pass
  unfolding move
  exponent_not h = rw (outside (69 ∷ 101 ∷ []) b h)

  pub fraction_is : b ≡ 46 → move fraction b ≡ go (digit ∷ digits ∷ exponent ∷ [])
  unfolding move
  fraction_is e = rw (eq-eqb b 46 e)

  pub fraction_not : (b ≡ 46 → ⊥) → move fraction b ≡ move exponent b
  unfolding move
  fraction_not h = rw (ne_eqb b 46 h)

  pub integer_zero : b ≡ 48 → move integer b ≡ go (fraction ∷ [])
  unfolding move
  integer_zero e = rw (eq-eqb b 48 e)

  pub integer_more : (b ≡ 48 → ⊥) → 48 ≤ b → b < 58 → move integer b ≡ go (digits ∷ fraction ∷ [])
  unfolding move
  integer_more h p q = rw (ne_eqb b 48 h, inside 49 57 b (omega arith) (omega arith))

  pub integer_under : b < 48 → move integer b ≡ bad
  unfolding move
  integer_under p = rw (ne_eqb b 48 (omega arith), under 49 57 b (omega arith))

  pub integer_over : 57 < b → move integer b ≡ bad
  unfolding move
  integer_over p = rw (ne_eqb b 48 (omega arith), over 49 57 b p)
