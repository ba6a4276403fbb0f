-- The written form of characters: document 01, "Written form", the sentence on strings (what `$`, `*` and `?` become
-- is the policy's matter).
--   Scalar c          c is the number of a character: a Unicode scalar value
--   written c         the bytes of one character
--   written_text cs    the bytes of several
--   write_of bs out    how many bytes bs has, and out with bs at its beginning; None, and out, where bs does not fit
-- Differs from 01: nowhere.  Pinned by: Laws/Written.
use Rattle.std.specs.Prelude.{List, [], ◌∷◌, ◌++◌, ℕ, ◌+◌, ◌-◌, ◌/◌, ◌%◌, ◌≤◌, Option, eqb, leb, ltb}
use Rattle.chars.specs.Base.{pick, In}
use Rattle.chars.specs.Putting.{put_at}

pub data Scalar : ℕ → Type 0 where
  low : {c : ℕ} → c ≤ 55295 → Scalar c
  high : {c : ℕ} → In 57344 1114111 c → Scalar c

-- every one of them is a character
pub data Scalars : List ℕ → Type 0 where
  none : Scalars []
  more : {c : ℕ} {cs : List ℕ} → Scalar c → Scalars cs → Scalars (c ∷ cs)

-- a lower-case hexadecimal digit
abbrev pub hex_digit : ℕ → ℕ
hex_digit n = pick (leb n 9) (48 + n) (97 + (n - 10))

-- \u with four lower-case hex digits
unfoldable pub coded : ℕ → List ℕ
coded u =
    92 ∷ 117 ∷ hex_digit (u / 4096 % 16) ∷ hex_digit (u / 256 % 16) ∷ hex_digit (u / 16 % 16) ∷ hex_digit (u % 16) ∷ []

-- " and \ take a backslash; below U+0020 and from U+007F upward \u, two of them above U+FFFF; others are themselves
unfoldable pub written : ℕ → List ℕ
written c =
    pick (eqb c 34) (92 ∷ 34 ∷ [])
    (pick (eqb c 92) (92 ∷ 92 ∷ [])
    (pick (ltb c 32) (coded c)
    (pick (leb c 126) (c ∷ [])
    (pick (leb c 65535) (coded c)
    (coded (55296 + (c - 65536) / 1024) ++ coded (56320 + (c - 65536) % 1024))))))

unfoldable pub written_text : List ℕ → List ℕ
written_text [] = []
written_text (c ∷ cs) = written c ++ written_text cs

abbrev pub write_of : List ℕ → List ℕ → Option ℕ × List ℕ
write_of bs out = put_at out 0 bs
