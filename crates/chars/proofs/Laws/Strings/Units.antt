-- units_of finds the units of a body: constructor by constructor, what bytes begin with.
use mathlib.Core.Path.{◌≡◌, refl, ap, ◌∙◌}
use mathlib.Core.List.{List, ◌∷◌, ◌++◌}
use Prim.Native.Nat.{ℕ, ◌-◌, ◌%◌, ◌≤◌}
use native.Mathlib.Omega.{arith}
use Rattle.chars.specs.Base.{In}
use Rattle.chars.specs.Utf8.{Tail, two, three, four, Sequence, ascii, c2_df, e0, e1_ec, ed, ee_ef, f0, f1_f3, f4}
use Rattle.chars.specs.Strings.{Unit, plain, Short, quote, reverse_solidus, solidus, backspace, form_feed}
use Rattle.chars.specs.Strings.{line_feed, carriage_return, tab, Hex, digit, upper, lower, Char, unescaped}
use Rattle.chars.specs.Strings.{escaped, hexed, Body, end, more}
use Rattle.chars.specs.Decoding.{hex_of, code_at, letter_of, read, units_behind, units_of}
use Rattle.chars.proofs.Laws.Strings.Digits.{hex_digit_lem, hex_upper, hex_lower}
use Rattle.chars.proofs.Laws.Strings.Reading.{read_sequence, sequence_one, sequence_two, sequence_three}
use Rattle.chars.proofs.Laws.Strings.Reading.{sequence_four, read_letter, read_code, units_cons}

hex_complete : {b n : ℕ} → Hex b n → hex_of b ≡ n
hex_complete (digit p) = hex_digit_lem p
hex_complete (upper p) = hex_upper p
hex_complete (lower p) = hex_lower p

letter_complete : {x c : ℕ} → Short x c → letter_of x ≡ c
unfolding letter_of
letter_complete quote = refl
letter_complete reverse_solidus = refl
letter_complete solidus = refl
letter_complete backspace = refl
letter_complete form_feed = refl
letter_complete line_feed = refl
letter_complete carriage_return = refl
letter_complete tab = refl

short_no_u : {x c : ℕ} → Short x c → x ≡ 117 → ⊥
short_no_u quote e = omega arith
short_no_u reverse_solidus e = omega arith
short_no_u solidus e = omega arith
short_no_u backspace e = omega arith
short_no_u form_feed e = omega arith
short_no_u line_feed e = omega arith
short_no_u carriage_return e = omega arith
short_no_u tab e = omega arith

-- the bits that the ranges of a sequence leave
low_six : {b : ℕ} → Tail b → b % 64 ≡ b - 128
low_six {b} p = omega (arith, p.low, p.high)

module _ (w : List ℕ) {a b : ℕ} (t : Tail b) where
  units_two : In 194 223 a → units_of (a ∷ b ∷ w) ≡ plain (two a b) ∷ units_of w
  units_two p =
      let e : a % 32 ≡ a - 192 = omega (arith, p.low, p.high) in
      units_cons (a ∷ b ∷ w) {n = 1} (omega arith)
      (read_sequence (a ∷ b ∷ w) (λ k. omega (arith, p.low))
      ∙ sequence_two (a ∷ b ∷ w) a (omega (arith, p.low)) (omega (arith, p.high)) ∙ rw (e, low_six t))

  module _ {c : ℕ} (t' : Tail c) where
    units_three : In 224 239 a → units_of (a ∷ b ∷ c ∷ w) ≡ plain (three a b c) ∷ units_of w
    units_three p =
        let e : a % 16 ≡ a - 224 = omega (arith, p.low, p.high) in
        units_cons (a ∷ b ∷ c ∷ w) {n = 2} (omega arith)
        (read_sequence (a ∷ b ∷ c ∷ w) (λ k. omega (arith, p.low))
        ∙ sequence_three (a ∷ b ∷ c ∷ w) a p.low (omega (arith, p.high)) ∙ rw (e, low_six t, low_six t'))

    units_four : {d : ℕ} → Tail d → In 240 244 a → units_of (a ∷ b ∷ c ∷ d ∷ w) ≡ plain (four a b c d) ∷ units_of w
    units_four {d} t'' p =
        let e : a % 8 ≡ a - 240 = omega (arith, p.low, p.high) in
        units_cons (a ∷ b ∷ c ∷ d ∷ w) {n = 3} (omega arith)
        (read_sequence (a ∷ b ∷ c ∷ d ∷ w) (λ k. omega (arith, p.low))
        ∙ sequence_four (a ∷ b ∷ c ∷ d ∷ w) a p.low ∙ rw (e, low_six t, low_six t', low_six t''))

-- a range in a wider one
wider : {lo hi lo' hi' b : ℕ} → lo' ≤ lo → hi ≤ hi' → In lo hi b → In lo' hi' b
wider {b = b} l h p = record { low = omega (arith, p.low); high = omega (arith, p.high) }

at_byte : {lo hi : ℕ} (b : ℕ) → lo ≤ b → b ≤ hi → In lo hi b
at_byte b l h = record { low = l; high = h }

units_sequence : {bs : List ℕ} {c : ℕ} (w : List ℕ) → Sequence bs c → (c ≡ 92 → ⊥)
    → units_of (bs ++ w) ≡ plain c ∷ units_of w
units_sequence w (ascii {a} p) k =
    units_cons (a ∷ w) (omega arith) (read_sequence (a ∷ w) k ∙ sequence_one (a ∷ w) a (omega arith))
units_sequence w (c2_df p q) k = units_two w q p
units_sequence w (e0 p q) k =
    units_three w (wider (omega arith) (omega arith) p) q (at_byte 224 (omega arith) (omega arith))
units_sequence w (e1_ec p q r) k = units_three w q r (wider (omega arith) (omega arith) p)
units_sequence w (ed p q) k =
    units_three w (wider (omega arith) (omega arith) p) q (at_byte 237 (omega arith) (omega arith))
units_sequence w (ee_ef p q r) k = units_three w q r (wider (omega arith) (omega arith) p)
units_sequence w (f0 p q r) k =
    units_four w (wider (omega arith) (omega arith) p) q r (at_byte 240 (omega arith) (omega arith))
units_sequence w (f1_f3 p q r s) k = units_four w q r s (wider (omega arith) (omega arith) p)
units_sequence w (f4 p q r) k =
    units_four w (wider (omega arith) (omega arith) p) q r (at_byte 244 (omega arith) (omega arith))

units_char : {bs : List ℕ} {u : Unit} (w : List ℕ) → Char bs u → units_of (bs ++ w) ≡ u ∷ units_of w
unfolding code_at
units_char w (unescaped s h p q) = units_sequence w s q
units_char w (escaped {x} s) =
    units_cons (92 ∷ x ∷ w) (omega arith)
    (read_letter (92 ∷ x ∷ w) refl (short_no_u s) ∙ ap (λ (c : ℕ). read (plain c) 1) (letter_complete s))
units_char w (hexed {a} {b} {c} {d} p q r s) =
    units_cons (92 ∷ 117 ∷ a ∷ b ∷ c ∷ d ∷ w) {n = 5} (omega arith)
    (read_code (92 ∷ 117 ∷ a ∷ b ∷ c ∷ d ∷ w) refl refl
    ∙ rw (hex_complete p, hex_complete q, hex_complete r, hex_complete s))

pub units_complete : {w : List ℕ} {us : List Unit} → Body w us → units_of w ≡ us
unfolding units_behind
units_complete end = refl
units_complete (more {w = w} {u = u} c b) = units_char w c ∙ ap (λ (us : List Unit). u ∷ us) (units_complete b)
