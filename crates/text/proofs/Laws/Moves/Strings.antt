-- The items of a string, an escape and a sequence of UTF-8: each test on the byte picks one branch of the move.
use mathlib.Core.Path.{◌≡◌, ap, ◌∙◌}
use mathlib.Core.List.{[], ◌∷◌}
use Prim.Native.Nat.{ℕ, ◌≤◌, ◌<◌}
use native.Mathlib.Omega.{arith}
use lib.ListN.{replicate}
use borrow.Author.Tests.{ne_eqb}
use types.Run.{OneOf}
use Rattle.chars.specs.Base.{one_of}
use Rattle.text.specs.Machine.{Move, bad, go, hex, text, char, escape, letters, sequence, leads, high, owing}
use Rattle.text.specs.Machine.{move}
use Rattle.chars.proofs.Laws.Tests.{inside, under, over, among, outside}

module _ (b : ℕ) where
  pub hex_digit_lem : 48 ≤ b → b < 58 → move hex b ≡ go []
  unfolding move
  hex_digit_lem p q = rw (inside 48 57 b p (omega arith))

  pub hex_upper : 65 ≤ b → b < 71 → move hex b ≡ go []
  unfolding move
  hex_upper p q = rw (over 48 57 b (omega arith), inside 65 70 b p (omega arith))

  pub hex_lower : 97 ≤ b → b < 103 → move hex b ≡ go []
  unfolding move
  hex_lower p q = rw (over 48 57 b (omega arith), over 65 70 b (omega arith), inside 97 102 b p (omega arith))

  pub hex_below : b < 48 → move hex b ≡ bad
  unfolding move
  hex_below p = rw (under 48 57 b p, under 65 70 b (omega arith), under 97 102 b (omega arith))

  pub hex_between : 58 ≤ b → b < 65 → move hex b ≡ bad
  unfolding move
  hex_between p q = rw (over 48 57 b p, under 65 70 b q, under 97 102 b (omega arith))

  pub hex_gap : 71 ≤ b → b < 97 → move hex b ≡ bad
  unfolding move
  hex_gap p q = rw (over 48 57 b (omega arith), over 65 70 b p, under 97 102 b q)

  pub hex_above : 103 ≤ b → move hex b ≡ bad
  unfolding move
  hex_above p = rw (over 48 57 b (omega arith), over 65 70 b (omega arith), over 97 102 b p)

  pub escape_letter : OneOf letters b → move escape b ≡ go []
  unfolding move
  escape_letter h = rw (among letters b h)

  pub escape_hex : b ≡ 117 → move escape b ≡ go (replicate 4 hex)
  unfolding move one_of
  escape_hex e = rw e

  pub escape_not : (OneOf letters b → ⊥) → (b ≡ 117 → ⊥) → move escape b ≡ bad
  unfolding move
  escape_not h g = rw (outside letters b h, ne_eqb b 117 g)

  pub char_escape : b ≡ 92 → move char b ≡ go (escape ∷ [])
  unfolding move leads
  char_escape e = rw e

  pub char_plain : (b ≡ 92 → ⊥) → 32 ≤ b → b < 128 → move char b ≡ go []
  unfolding move leads
  char_plain h p q = rw (ne_eqb b 92 h, inside 32 127 b p (omega arith))

  pub char_low : b < 32 → move char b ≡ high b
  unfolding move leads
  char_low p = rw (ne_eqb b 92 (omega arith), under 32 127 b p)

  -- a first byte that is no ASCII
  pub char_high : 128 ≤ b → move char b ≡ high b
  unfolding move leads
  char_high p = rw (ne_eqb b 92 (omega arith), over 32 127 b p)

  pub high_tail : b < 194 → high b ≡ bad
  unfolding high
  high_tail q =
      rw (
        under 194 223 b q,
        ne_eqb b 224 (omega arith),
        ne_eqb b 237 (omega arith),
        under 225 239 b (omega arith),
        ne_eqb b 240 (omega arith),
        under 241 243 b (omega arith),
        ne_eqb b 244 (omega arith),
      )

  pub high_two : 194 ≤ b → b < 224 → high b ≡ sequence 128 191 0
  unfolding high
  high_two p q = rw (inside 194 223 b p (omega arith))

  pub high_e0 : b ≡ 224 → high b ≡ sequence 160 191 1
  unfolding high
  high_e0 e = rw e

  pub high_ed : b ≡ 237 → high b ≡ sequence 128 159 1
  unfolding high
  high_ed e = rw e

  pub high_three : (b ≡ 224 → ⊥) → (b ≡ 237 → ⊥) → 224 ≤ b → b < 240 → high b ≡ sequence 128 191 1
  unfolding high
  high_three h g p q =
      rw (over 194 223 b p, ne_eqb b 224 h, ne_eqb b 237 g, inside 225 239 b (omega arith) (omega arith))

  pub high_f0 : b ≡ 240 → high b ≡ sequence 144 191 2
  unfolding high
  high_f0 e = rw e

  pub high_four : (b ≡ 240 → ⊥) → 240 ≤ b → b < 244 → high b ≡ sequence 128 191 2
  unfolding high
  high_four h p q =
      rw (
        over 194 223 b (omega arith),
        ne_eqb b 224 (omega arith),
        ne_eqb b 237 (omega arith),
        over 225 239 b p,
        ne_eqb b 240 h,
        inside 241 243 b (omega arith) (omega arith),
      )

  pub high_f4 : b ≡ 244 → high b ≡ sequence 128 143 2
  unfolding high
  high_f4 e = rw e

  pub high_none : (b ≡ 244 → ⊥) → 244 ≤ b → high b ≡ bad
  unfolding high
  high_none h p =
      rw (
        over 194 223 b (omega arith),
        ne_eqb b 224 (omega arith),
        ne_eqb b 237 (omega arith),
        over 225 239 b (omega arith),
        ne_eqb b 240 (omega arith),
        over 241 243 b p,
        ne_eqb b 244 h,
      )

  pub text_quote : b ≡ 34 → move text b ≡ go []
  unfolding move
  text_quote e = rw e

  pub text_char : (b ≡ 34 → ⊥) → move text b ≡ owing (move char b) (text ∷ [])
  unfolding move
  text_char h = rw (ne_eqb b 34 h)

  -- a character of one byte leaves the rest of the string owed as it was
  pub text_plain : (b ≡ 34 → ⊥) → (b ≡ 92 → ⊥) → 32 ≤ b → b < 128 → move text b ≡ go (text ∷ [])
  text_plain q e l u = text_char q ∙ ap (λ (m : Move). owing m (text ∷ [])) (char_plain e l u)
