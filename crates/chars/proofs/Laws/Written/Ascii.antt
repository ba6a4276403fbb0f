-- Every byte of what is written is from U+0020 to U+007E, whatever the numbers are: one line of ASCII.
use mathlib.Core.List.{List, [], ◌∷◌, ◌++◌}
use Prim.Native.Nat.{ℕ, ◌+◌, ◌-◌, ◌/◌, ◌%◌, ◌≤◌, ◌<◌}
use native.Mathlib.Omega.{arith}
use native.Mathlib.Decide.{dec_lt}
use borrow.Author.Tests.{le-leb, lt-leb}
use Rattle.chars.specs.Base.{In}
use Rattle.chars.specs.Written.{hex_digit, coded, written, written_text}
use Rattle.chars.proofs.Laws.Written.Forms.{Form, quoted, solidus, bare, code, two_codes, form}

pub data Ascii : List ℕ → Type 0 where
  none : Ascii []
  more : {b : ℕ} {bs : List ℕ} → In 32 126 b → Ascii bs → Ascii (b ∷ bs)

pub ascii_append : {xs ys : List ℕ} → Ascii xs → Ascii ys → Ascii (xs ++ ys)
ascii_append none q = q
ascii_append (more b p) q = more b (ascii_append p q)

byte : (b : ℕ) → 32 ≤ b → b ≤ 126 → In 32 126 b
byte b l h = record { low = l; high = h }

digit_ascii : (d : ℕ) → d < 16 → In 32 126 (hex_digit d)
digit_ascii d h = by (dec_lt 9 d)
  where
    by : Dec (9 < d) → In 32 126 (hex_digit d)
    by (yes k) = rw (lt-leb d 9 k) (byte (97 + (d - 10)) (omega arith) (omega arith))
    by (no k) = let l : d ≤ 9 = omega arith in rw (le-leb d 9 l) (byte (48 + d) (omega arith) (omega arith))

coded_ascii : (u : ℕ) → Ascii (coded u)
unfolding coded
coded_ascii u =
    more (byte 92 (omega arith) (omega arith)) (more (byte 117 (omega arith) (omega arith))
    (more (digit_ascii (u / 4096 % 16) (omega arith)) (more (digit_ascii (u / 256 % 16) (omega arith))
    (more (digit_ascii (u / 16 % 16) (omega arith)) (more (digit_ascii (u % 16) (omega arith)) none)))))

behind_solidus : (b : ℕ) → 32 ≤ b → b ≤ 126 → Ascii (92 ∷ b ∷ [])
behind_solidus b l h = more (byte 92 (omega arith) (omega arith)) (more (byte b l h) none)

form_ascii : {c : ℕ} {bs : List ℕ} → Form c bs → Ascii bs
form_ascii (quoted e) = behind_solidus 34 (omega arith) (omega arith)
form_ascii (solidus e) = behind_solidus 92 (omega arith) (omega arith)
form_ascii {c} (bare l h d e) = more (byte c l h) none
form_ascii {c} (code h) = coded_ascii c
form_ascii {c} (two_codes h) =
    ascii_append (coded_ascii (55296 + (c - 65536) / 1024)) (coded_ascii (56320 + (c - 65536) % 1024))

pub written_ascii : (c : ℕ) → Ascii (written c)
written_ascii c = form_ascii (form c)

pub text_ascii : (cs : List ℕ) → Ascii (written_text cs)
unfolding written_text
text_ascii [] = none
text_ascii (c ∷ cs) = ascii_append (written_ascii c) (text_ascii cs)
