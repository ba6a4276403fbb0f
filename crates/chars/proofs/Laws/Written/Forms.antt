-- The written form of a character, by the range that its number is in.
use mathlib.Core.Path.{◌≡◌, ap}
use mathlib.Core.List.{List, [], ◌∷◌, ◌++◌}
use Prim.Native.Nat.{ℕ, ◌+◌, ◌-◌, ◌/◌, ◌%◌, ◌≤◌, ◌<◌}
use native.Mathlib.Omega.{arith}
use native.Mathlib.Decide.{dec_lt, ℕ_discrete}
use borrow.Author.Tests.{le-leb, lt-leb, lt-ltb, le-ltb, ne_eqb}
use Rattle.chars.specs.Written.{coded, written}

module _ (c : ℕ) where
  pub written_quote : c ≡ 34 → written c ≡ 92 ∷ 34 ∷ []
  unfolding written
  written_quote e = ap written e

  pub written_solidus : c ≡ 92 → written c ≡ 92 ∷ 92 ∷ []
  unfolding written
  written_solidus e = ap written e

  pub written_control : c < 32 → written c ≡ coded c
  unfolding written
  written_control h = rw (ne_eqb c 34 (λ e. omega arith), ne_eqb c 92 (λ e. omega arith), lt-ltb c 32 h)

  pub written_bare : (c ≡ 34 → ⊥) → (c ≡ 92 → ⊥) → 32 ≤ c → c ≤ 126 → written c ≡ c ∷ []
  unfolding written
  written_bare p q h k = rw (ne_eqb c 34 p, ne_eqb c 92 q, le-ltb c 32 h, le-leb c 126 k)

  pub written_coded : 126 < c → c ≤ 65535 → written c ≡ coded c
  unfolding written
  written_coded h k =
      rw (
        ne_eqb c 34 (λ e. omega arith),
        ne_eqb c 92 (λ e. omega arith),
        le-ltb c 32 (omega arith),
        lt-leb c 126 h,
        le-leb c 65535 k,
      )

  pub written_pair : 65535 < c → written c ≡ coded (55296 + (c - 65536) / 1024) ++ coded (56320 + (c - 65536) % 1024)
  unfolding written
  written_pair h =
      rw (
        ne_eqb c 34 (λ e. omega arith),
        ne_eqb c 92 (λ e. omega arith),
        le-ltb c 32 (omega arith),
        lt-leb c 126 (omega arith),
        lt-leb c 65535 h,
      )

-- the five forms
pub data Form (c : ℕ) : List ℕ → Type 0 where
  quoted : c ≡ 34 → Form c (92 ∷ 34 ∷ [])
  solidus : c ≡ 92 → Form c (92 ∷ 92 ∷ [])
  bare : 32 ≤ c → c ≤ 126 → (c ≡ 34 → ⊥) → (c ≡ 92 → ⊥) → Form c (c ∷ [])
  code : c ≤ 65535 → Form c (coded c)
  two_codes : 65535 < c → Form c (coded (55296 + (c - 65536) / 1024) ++ coded (56320 + (c - 65536) % 1024))

pub form : (c : ℕ) → Form c (written c)
form c = control (dec_lt c 32)
  where
    wide : 126 < c → Dec (65535 < c) → Form c (written c)
    wide k (yes g) = rw (written_pair c g) (two_codes g)
    wide k (no g) = rw (written_coded c k (omega arith)) (code (omega arith))

    narrow : 32 ≤ c → c ≤ 126 → Dec (c ≡ 34) → Dec (c ≡ 92) → Form c (written c)
    narrow l h (yes e) d = rw (written_quote c e) (quoted e)
    narrow l h (no d) (yes e) = rw (written_solidus c e) (solidus e)
    narrow l h (no d) (no e) = rw (written_bare c d e l h) (bare l h d e)

    printable : 32 ≤ c → Dec (126 < c) → Form c (written c)
    printable l (yes k) = wide k (dec_lt 65535 c)
    printable l (no k) = narrow l (omega arith) (ℕ_discrete c 34) (ℕ_discrete c 92)

    control : Dec (c < 32) → Form c (written c)
    control (yes k) = rw (written_control c k) (code (omega arith))
    control (no k) = printable (omega arith) (dec_lt 126 c)
