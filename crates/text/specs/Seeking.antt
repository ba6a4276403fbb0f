-- How a walk over a whole text finds the end of a string: it passes a reverse solidus with the byte behind it, and every
-- other byte alone, up to a quote.
-- Nothing here need be believed: Laws/Seeking proves that this quote is the one that ends the string.
--   Unmarked b     b is neither a quote nor a reverse solidus
--   Seeks s i e    from place i of a string, the quote found stands right before place e
--   Nears s a i    from place a to place i no quote was found
use Rattle.std.specs.Prelude.{◌≡◌, List, [], ◌∷◌, ℕ, ◌+◌, ◌≤◌, length}
use Rattle.chars.specs.Base.{At}
use Rattle.text.specs.Machine.{text}
use Rattle.text.specs.Reading.{Done}

pub record Unmarked (b : ℕ) : Type 0 where
  pub no_quote : b ≡ 34 → ⊥
  pub no_solidus : b ≡ 92 → ⊥

pub data Seeks (s : List ℕ) : ℕ → ℕ → Type 0 where
  quote : {i : ℕ} → At s i 34 → Seeks s i (i + 1)
  pair : {i e : ℕ} → At s i 92 → Seeks s (i + 2) e → Seeks s i e
  other : {i b e : ℕ} → At s i b → Unmarked b → Seeks s (i + 1) e → Seeks s i e

pub record Nears (s : List ℕ) (a i : ℕ) : Type 0 where
  pub low : a ≤ i
  pub high : i ≤ length s
  pub goes : (e : ℕ) → Seeks s a e → Seeks s i e

-- what the code asks: at a place, the rest of a string is owed, and it ends
pub record Quoting (s : List ℕ) (at : ℕ) : Type 0 where
  pub stop : ℕ
  pub is : Done s (text ∷ []) at stop
