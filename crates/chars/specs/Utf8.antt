-- UTF-8: RFC 3629, section 4, the rows of its syntax, and section 3 for the number that a sequence stands for.
--   Tail b          UTF8-tail
--   Sequence bs c   the bytes bs are a well-formed sequence, and c is the character's number
-- Differs from the RFC: nowhere.  Pinned by: `means_scalar` of Laws/Strings, `verdict_means` of Laws/Meaning.
use Rattle.std.specs.Prelude.{List, [], ◌∷◌, ℕ, ◌+◌, ◌*◌, ◌-◌, ◌≤◌}
use Rattle.chars.specs.Base.{In}

abbrev pub Tail : ℕ → Type 0
Tail b = In 128 191 b

-- the bits of two, three and four bytes put together
abbrev pub two : ℕ → ℕ → ℕ
two a b = (a - 192) * 64 + (b - 128)

abbrev pub three : ℕ → ℕ → ℕ → ℕ
three a b c = (a - 224) * 4096 + (b - 128) * 64 + (c - 128)

abbrev pub four : ℕ → ℕ → ℕ → ℕ → ℕ
four a b c d = (a - 240) * 262144 + (b - 128) * 4096 + (c - 128) * 64 + (d - 128)

pub data Sequence : List ℕ → ℕ → Type 0 where
  -- 00-7F
  ascii : {a : ℕ} → a ≤ 127 → Sequence (a ∷ []) a
  -- C2-DF tail
  c2_df : {a b : ℕ} → In 194 223 a → Tail b → Sequence (a ∷ b ∷ []) (two a b)
  -- E0 A0-BF tail; E1-EC tail tail; ED 80-9F tail; EE-EF tail tail
  e0 : {b c : ℕ} → In 160 191 b → Tail c → Sequence (224 ∷ b ∷ c ∷ []) (three 224 b c)
  e1_ec : {a b c : ℕ} → In 225 236 a → Tail b → Tail c → Sequence (a ∷ b ∷ c ∷ []) (three a b c)
  ed : {b c : ℕ} → In 128 159 b → Tail c → Sequence (237 ∷ b ∷ c ∷ []) (three 237 b c)
  ee_ef : {a b c : ℕ} → In 238 239 a → Tail b → Tail c → Sequence (a ∷ b ∷ c ∷ []) (three a b c)
  -- F0 90-BF tail tail; F1-F3 tail tail tail; F4 80-8F tail tail
  f0 : {b c d : ℕ} → In 144 191 b → Tail c → Tail d → Sequence (240 ∷ b ∷ c ∷ d ∷ []) (four 240 b c d)
  f1_f3 : {a b c d : ℕ} → In 241 243 a → Tail b → Tail c → Tail d → Sequence (a ∷ b ∷ c ∷ d ∷ []) (four a b c d)
  f4 : {b c d : ℕ} → In 128 143 b → Tail c → Tail d → Sequence (244 ∷ b ∷ c ∷ d ∷ []) (four 244 b c d)
