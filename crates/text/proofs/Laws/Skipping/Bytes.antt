-- Bytes that open and close nothing: white space, commas and colons, and every byte of a number or a word.
use mathlib.Core.Path.{◌≡◌}
use mathlib.Core.List.{List, [], ◌∷◌, ◌++◌}
use Prim.Native.Nat.{ℕ, ◌≤◌, ◌<◌}
use native.Mathlib.Omega.{arith}
use borrow.Author.Tests.{ne_eqb}
use Rattle.chars.specs.Base.{In}
use Rattle.text.specs.Json.{White, tab, line_feed, carriage_return, space, Digits, no_digit, digit, Digits₁}
use Rattle.text.specs.Json.{digits, Int, zero, from_1_9, Frac, no_frac, frac, Sign, no_sign, plus, minus, Exp}
use Rattle.text.specs.Json.{no_exp, upper, lower, Number, unsigned, negative}
use Rattle.text.specs.Skipping.{level, Plain}

pub level_other : (b n : ℕ) → (b ≡ 91 → ⊥) → (b ≡ 123 → ⊥) → (b ≡ 93 → ⊥) → (b ≡ 125 → ⊥) → level b n ≡ n
unfolding level
level_other b n h1 h2 h3 h4 = rw (ne_eqb b 91 h1, ne_eqb b 123 h2, ne_eqb b 93 h3, ne_eqb b 125 h4)

pub low : (b : ℕ) → b < 91 → (b ≡ 34 → ⊥) → Plain b
low b h q =
    record {
      keeps = λ n. level_other b n (omega arith) (omega arith) (omega arith) (omega arith);
      no_quote = q;
    }

pub letter : (b : ℕ) → 97 ≤ b → b < 123 → Plain b
letter b h g =
    record {
      keeps = λ n. level_other b n (omega arith) (omega arith) (omega arith) (omega arith);
      no_quote = omega arith;
    }

pub data Plains : List ℕ → Type 0 where
  empty : Plains []
  then : {b : ℕ} {w : List ℕ} → Plain b → Plains w → Plains (b ∷ w)

both : {v w : List ℕ} → Plains v → Plains w → Plains (v ++ w)
both empty q = q
both (then h p) q = then h (both p q)

pub white_plain : {b : ℕ} → White b → Plain b
white_plain tab = low 9 (omega arith) (omega arith)
white_plain line_feed = low 10 (omega arith) (omega arith)
white_plain carriage_return = low 13 (omega arith) (omega arith)
white_plain space = low 32 (omega arith) (omega arith)

digit_plain : {d : ℕ} → In 48 57 d → Plain d
digit_plain {d} h = let l = h.low in let g = h.high in low d (omega arith) (omega arith)

digits_plain : {w : List ℕ} → Digits w → Plains w
digits_plain no_digit = empty
digits_plain (digit h p) = then (digit_plain h) (digits_plain p)

digits₁_plain : {w : List ℕ} → Digits₁ w → Plains w
digits₁_plain (digits h p) = then (digit_plain h) (digits_plain p)

int_plain : {w : List ℕ} → Int w → Plains w
int_plain zero = then (low 48 (omega arith) (omega arith)) empty
int_plain (from_1_9 {d} h p) =
    let l = h.low in let g = h.high in then (low d (omega arith) (omega arith)) (digits_plain p)

frac_plain : {w : List ℕ} → Frac w → Plains w
frac_plain no_frac = empty
frac_plain (frac p) = then (low 46 (omega arith) (omega arith)) (digits₁_plain p)

sign_plain : {w : List ℕ} → Sign w → Plains w
sign_plain no_sign = empty
sign_plain plus = then (low 43 (omega arith) (omega arith)) empty
sign_plain minus = then (low 45 (omega arith) (omega arith)) empty

exp_plain : {w : List ℕ} → Exp w → Plains w
exp_plain no_exp = empty
exp_plain (upper g p) = then (low 69 (omega arith) (omega arith)) (both (sign_plain g) (digits₁_plain p))
exp_plain (lower g p) = then (letter 101 (omega arith) (omega arith)) (both (sign_plain g) (digits₁_plain p))

pub number_plain : {w : List ℕ} → Number w → Plains w
number_plain (unsigned i f x) = both (int_plain i) (both (frac_plain f) (exp_plain x))
number_plain (negative i f x) =
    then (low 45 (omega arith) (omega arith)) (both (int_plain i) (both (frac_plain f) (exp_plain x)))

-- ---- words

pub null_plain : Plains (110 ∷ 117 ∷ 108 ∷ 108 ∷ [])
null_plain =
    then (letter 110 (omega arith) (omega arith))
    (then (letter 117 (omega arith) (omega arith))
    (then (letter 108 (omega arith) (omega arith))
    (then (letter 108 (omega arith) (omega arith)) empty)))

pub true_plain : Plains (116 ∷ 114 ∷ 117 ∷ 101 ∷ [])
true_plain =
    then (letter 116 (omega arith) (omega arith))
    (then (letter 114 (omega arith) (omega arith))
    (then (letter 117 (omega arith) (omega arith))
    (then (letter 101 (omega arith) (omega arith)) empty)))

pub false_plain : Plains (102 ∷ 97 ∷ 108 ∷ 115 ∷ 101 ∷ [])
false_plain =
    then (letter 102 (omega arith) (omega arith))
    (then (letter 97 (omega arith) (omega arith))
    (then (letter 108 (omega arith) (omega arith))
    (then (letter 115 (omega arith) (omega arith))
    (then (letter 101 (omega arith) (omega arith)) empty))))
