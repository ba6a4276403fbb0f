-- Strings: RFC 8259, section 7.
--   Char bs u       the bytes bs are one `char` of the grammar, and u is what it says
--   Body w us       the bytes w are `*char`, what stands between two quotes
--   Means us cs     the characters that the units say: two escapes that are a surrogate pair are one character;
--                   a surrogate escape that is no half of a pair means nothing (no constructor)
-- Differs from the RFC: nowhere.  Pinned by: Laws/Strings.
use Rattle.std.specs.Prelude.{◌≡◌, List, [], ◌∷◌, ◌++◌, ℕ, ◌+◌, ◌*◌, ◌-◌, ◌≤◌, ◌<◌}
use Rattle.chars.specs.Base.{In}
use Rattle.chars.specs.Utf8.{Sequence}

-- a character that stands for itself or behind a reverse solidus; or the four digits of \u
pub data Unit : Type 0 where
  plain : ℕ → Unit
  coded : ℕ → Unit

-- a letter behind a reverse solidus, and its character
pub data Short : ℕ → ℕ → Type 0 where
  quote : Short 34 34
  reverse_solidus : Short 92 92
  solidus : Short 47 47
  backspace : Short 98 8
  form_feed : Short 102 12
  line_feed : Short 110 10
  carriage_return : Short 114 13
  tab : Short 116 9

-- a hexadecimal digit, and its number
pub data Hex : ℕ → ℕ → Type 0 where
  digit : {b : ℕ} → In 48 57 b → Hex b (b - 48)
  upper : {b : ℕ} → In 65 70 b → Hex b (b - 65 + 10)
  lower : {b : ℕ} → In 97 102 b → Hex b (b - 97 + 10)

pub data Char : List ℕ → Unit → Type 0 where
  -- unescaped: U+0020 and above, neither the quote nor the reverse solidus
  unescaped : {bs : List ℕ} {c : ℕ} → Sequence bs c → 32 ≤ c → (c ≡ 34 → ⊥) → (c ≡ 92 → ⊥) → Char bs (plain c)
  escaped : {x c : ℕ} → Short x c → Char (92 ∷ x ∷ []) (plain c)
  hexed : {a b c d w x y z : ℕ} → Hex a w → Hex b x → Hex c y → Hex d z
      → Char (92 ∷ 117 ∷ a ∷ b ∷ c ∷ d ∷ []) (coded (w * 4096 + x * 256 + y * 16 + z))

pub data Body : List ℕ → List Unit → Type 0 where
  end : Body [] []
  more : {bs w : List ℕ} {u : Unit} {us : List Unit} → Char bs u → Body w us → Body (bs ++ w) (u ∷ us)

-- the first and the second half of a surrogate pair
abbrev pub High : ℕ → Type 0
High u = In 55296 56319 u

abbrev pub Low : ℕ → Type 0
Low u = In 56320 57343 u

-- the character of a pair
abbrev pub paired : ℕ → ℕ → ℕ
paired h l = 65536 + (h - 55296) * 1024 + (l - 56320)

pub data Means : List Unit → List ℕ → Type 0 where
  none : Means [] []
  one : {c : ℕ} {us : List Unit} {cs : List ℕ} → Means us cs → Means (plain c ∷ us) (c ∷ cs)
  below : {u : ℕ} {us : List Unit} {cs : List ℕ} → u < 55296 → Means us cs → Means (coded u ∷ us) (u ∷ cs)
  above : {u : ℕ} {us : List Unit} {cs : List ℕ} → 57343 < u → Means us cs → Means (coded u ∷ us) (u ∷ cs)
  pair : {h l : ℕ} {us : List Unit} {cs : List ℕ} → High h → Low l → Means us cs
      → Means (coded h ∷ coded l ∷ us) (paired h l ∷ cs)
