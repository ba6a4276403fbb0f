-- Laws of Written: what is written is the body of a JSON string, and decoding gives the characters back.
--   written_tells, text_tells    a body that means the characters
--   text_round                   text_of undoes written_text
-- That every byte of it is printable ASCII is on the page Ascii.
use mathlib.Core.Path.{◌≡◌, subst}
use mathlib.Core.List.{List, [], ◌∷◌, ◌++◌, append_assoc}
use Prim.Native.Nat.{ℕ, ◌+◌, ◌*◌, ◌-◌, ◌/◌, ◌%◌, ◌≤◌, ◌<◌}
use native.Mathlib.Omega.{arith}
use native.Mathlib.Decide.{dec_lt}
use borrow.Author.Tests.{le-leb, lt-leb}
use Rattle.chars.specs.Utf8.{ascii}
use Rattle.chars.specs.Strings.{Unit, plain, coded, quote, reverse_solidus, Hex, digit, lower, Char, unescaped}
use Rattle.chars.specs.Strings.{escaped, hexed, Body, end, more, High, Low, paired, Means, none, one, below, above}
use Rattle.chars.specs.Strings.{pair}
use Rattle.chars.specs.Written.{Scalar, low, high, Scalars, hex_digit, written, written_text}
use Rattle.chars.specs.Written as W
use Rattle.chars.specs.Decoding.{text_of}
use Rattle.chars.proofs.Laws.Strings.{said, text_complete}
use Rattle.chars.proofs.Laws.Written.Forms.{Form, quoted, solidus, bare, code, two_codes, form}
pub mod Ascii
pub mod Forms
pub mod Runs

-- the bytes w are the body of a string that means cs
pub record Tells (w cs : List ℕ) : Type 0 where
  pub units : List Unit
  pub body : Body w units
  pub means : Means units cs

-- ---- escapes

hex_written : (d : ℕ) → d < 16 → Hex (hex_digit d) d
hex_written d h = by (dec_lt 9 d)
  where
    by : Dec (9 < d) → Hex (hex_digit d) d
    by (yes k) =
        let e : 97 + (d - 10) - 97 + 10 ≡ d = omega arith in
        rw (lt-leb d 9 k) (subst (Hex (97 + (d - 10))) e (lower (record { low = omega arith; high = omega arith })))
    by (no k) =
        let e : 48 + d - 48 ≡ d = omega arith in
        let l : d ≤ 9 = omega arith in
        rw (le-leb d 9 l) (subst (Hex (48 + d)) e (digit (record { low = omega arith; high = omega arith })))

coded_char : (u : ℕ) → u ≤ 65535 → Char (W.coded u) (coded u)
unfolding W.coded
coded_char u h =
    let e1 : u / 16 / 16 ≡ u / 256 = omega arith in
    let e2 : u / 256 / 16 ≡ u / 4096 = omega arith in
    let m1 : u / 16 % 16 ≡ u / 16 - u / 256 * 16 = omega arith in
    let m2 : u / 256 % 16 ≡ u / 256 - u / 4096 * 16 = omega arith in
    let m3 : u / 4096 % 16 ≡ u / 4096 = omega arith in
    let e : u / 4096 % 16 * 4096 + u / 256 % 16 * 256 + u / 16 % 16 * 16 + u % 16 ≡ u = omega arith in
    subst (λ (v : ℕ). Char (W.coded u) (coded v)) e
    (hexed (hex_written (u / 4096 % 16) (omega arith)) (hex_written (u / 256 % 16) (omega arith))
    (hex_written (u / 16 % 16) (omega arith)) (hex_written (u % 16) (omega arith)))

-- ---- bodies

module _ {w cs : List ℕ} (t : Tells w cs) where
  tells_plain : {bs : List ℕ} {c : ℕ} → Char bs (plain c) → Tells (bs ++ w) (c ∷ cs)
  tells_plain {c = c} p = record { units = plain c ∷ t.units; body = more p t.body; means = one t.means }

  tells_below : {u : ℕ} → u < 55296 → Tells (W.coded u ++ w) (u ∷ cs)
  tells_below {u} h =
      record {
        units = coded u ∷ t.units;
        body = more (coded_char u (omega arith)) t.body;
        means = below h t.means;
      }

  tells_above : {u : ℕ} → 57343 < u → u ≤ 65535 → Tells (W.coded u ++ w) (u ∷ cs)
  tells_above {u} h k =
      record { units = coded u ∷ t.units; body = more (coded_char u k) t.body; means = above h t.means }

  tells_pair : {h l : ℕ} → High h → Low l → Tells (W.coded h ++ W.coded l ++ w) (paired h l ∷ cs)
  tells_pair {h} {l} p q =
      record {
        units = coded h ∷ coded l ∷ t.units;
        body = rw (append_assoc (W.coded h) (W.coded l) w)
            (more (coded_char h (omega (arith, p.high))) (more (coded_char l (omega (arith, q.high))) t.body));
        means = pair p q t.means;
      }

  tells_form : {c : ℕ} {bs : List ℕ} → Form c bs → Scalar c → Tells (bs ++ w) (c ∷ cs)
  tells_form (quoted e) s = rw e (tells_plain (escaped quote))
  tells_form (solidus e) s = rw e (tells_plain (escaped reverse_solidus))
  tells_form (bare l h d e) s = tells_plain (unescaped (ascii (omega arith)) l d e)
  tells_form (code h) (low k) = tells_below (omega arith)
  tells_form (code h) (high k) = tells_above (omega (arith, k.low)) h
  tells_form (two_codes h) (low k) = let n : ⊥ = omega arith in elim n [ ]
  tells_form {c} (two_codes h) (high k) =
      let first = 55296 + (c - 65536) / 1024 in
      let second = 56320 + (c - 65536) % 1024 in
      let e : paired first second ≡ c = omega arith in
      subst (λ (d : ℕ). Tells (W.coded first ++ W.coded second ++ w) (d ∷ cs)) e
      (tells_pair (record { low = omega arith; high = omega (arith, k.high) })
      (record { low = omega arith; high = omega arith }))

  pub written_tells : {c : ℕ} → Scalar c → Tells (written c ++ w) (c ∷ cs)
  written_tells {c} s = tells_form (form c) s

pub text_tells : {cs : List ℕ} → Scalars cs → Tells (written_text cs) cs
unfolding written_text
text_tells W.none = record { units = []; body = end; means = none }
text_tells (W.more s ss) = written_tells (text_tells ss) s

pub text_round : {cs : List ℕ} → Scalars cs → text_of (written_text cs) ≡ said cs
text_round s = let t = text_tells s in text_complete t.body t.means
