-- A value by its first byte, and what stands first and next in a list or object: lists and objects alike.
use mathlib.Core.Path.{◌≡◌, refl}
use mathlib.Core.Bool.{false}
use mathlib.Core.List.{[], ◌∷◌, ◌++◌, map}
use mathlib.Core.Logic.{inl, inr, ◌⊎◌}
use Prim.Native.Nat.{ℕ, ◌≤◌, ◌<◌}
use native.Mathlib.Omega.{arith}
use borrow.Author.Tests.{eq-eqb, ne_eqb}
use Rattle.chars.specs.Base.{within}
use Rattle.text.specs.Machine.{bad, go, ws, byte, text, integer, value, first, next, close, before, inner, opener}
use Rattle.text.specs.Machine.{opens, begins, enters, move}
use Rattle.text.specs.declared.scan.Shape.{Shape}
use Rattle.text.specs.declared.scan.Shape.TheVariants.{List as list, Object as object}
use Rattle.chars.proofs.Laws.Tests.{inside, under, over}

module _ (b : ℕ) where
  pub value_is : (n : ℕ) → move (value n) b ≡ begins n b
  unfolding move
  value_is n = refl

  pub value_text : (n : ℕ) → b ≡ 34 → move (value n) b ≡ go (text ∷ [])
  unfolding move begins
  value_text n e = rw e

  pub value_minus : (n : ℕ) → b ≡ 45 → move (value n) b ≡ go (integer ∷ [])
  unfolding move begins
  value_minus n e = rw e

  pub value_digit : (n : ℕ) → 48 ≤ b → b < 58 → move (value n) b ≡ move integer b
  unfolding move begins
  value_digit n p q = rw (ne_eqb b 34 (omega arith), ne_eqb b 45 (omega arith), inside 48 57 b p (omega arith))

  pub value_false : (n : ℕ) → b ≡ 102 → move (value n) b ≡ go (map byte (97 ∷ 108 ∷ 115 ∷ 101 ∷ []))
  unfolding move begins
  value_false n e = rw e

  pub value_null : (n : ℕ) → b ≡ 110 → move (value n) b ≡ go (map byte (117 ∷ 108 ∷ 108 ∷ []))
  unfolding move begins
  value_null n e = rw e

  pub value_true : (n : ℕ) → b ≡ 116 → move (value n) b ≡ go (map byte (114 ∷ 117 ∷ 101 ∷ []))
  unfolding move begins
  value_true n e = rw e

  -- a list and an object are opened alike
  pub value_opens : (n : ℕ) (sh : Shape) → b ≡ opener sh → move (value n) b ≡ opens sh n
  unfolding move begins
  value_opens n list e = rw e
  value_opens n object e = rw e

  pub value_none : (n : ℕ) → (b ≡ 34 → ⊥) → (b ≡ 45 → ⊥) → (b < 48 ⊎ 57 < b) → (b ≡ 91 → ⊥) → (b ≡ 102 → ⊥)
      → (b ≡ 110 → ⊥) → (b ≡ 116 → ⊥) → (b ≡ 123 → ⊥) → move (value n) b ≡ bad
  unfolding move begins
  value_none n h1 h2 h3 h4 h5 h6 h7 h8 =
      rw (
        ne_eqb b 34 h1,
        ne_eqb b 45 h2,
        no_digit h3,
        ne_eqb b 91 h4,
        ne_eqb b 102 h5,
        ne_eqb b 110 h6,
        ne_eqb b 116 h7,
        ne_eqb b 123 h8,
      )
    where
      no_digit : b < 48 ⊎ 57 < b → within 48 57 b ≡ false
      no_digit (inl p) = under 48 57 b p
      no_digit (inr p) = over 48 57 b p

  pub first_close : (sh : Shape) (n : ℕ) → b ≡ close sh → move (first sh n) b ≡ go []
  unfolding move
  first_close sh n e = rw (eq-eqb b (close sh) e)

  pub first_not : (sh : Shape) (n : ℕ) → (b ≡ close sh → ⊥) → move (first sh n) b ≡ enters sh n b
  unfolding move
  first_not sh n h = rw (ne_eqb b (close sh) h)

  pub next_close : (sh : Shape) (n : ℕ) → b ≡ close sh → move (next sh n) b ≡ go []
  unfolding move
  next_close sh n e = rw (eq-eqb b (close sh) e)

  pub next_comma : (sh : Shape) (n : ℕ) → b ≡ 44 → move (next sh n) b ≡ go (ws ∷ (before sh ++ inner sh n))
  unfolding move
  next_comma list n e = rw e
  next_comma object n e = rw e

  pub next_not : (sh : Shape) (n : ℕ) → (b ≡ close sh → ⊥) → (b ≡ 44 → ⊥) → move (next sh n) b ≡ bad
  unfolding move
  next_not sh n h g = rw (ne_eqb b (close sh) h, ne_eqb b 44 g)
