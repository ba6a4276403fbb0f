-- The text by the tests that the private functions of `strings` make, and the next place.
use mathlib.Core.Path.{◌≡◌, sym, ap, ◌∙◌}
use mathlib.Core.List.{List, [], ◌∷◌}
use Prim.Native.Nat.{ℕ, suc, ◌+◌, ◌-◌, ◌≤◌, ◌<◌}
use native.Mathlib.Omega.{arith}
use native.Mathlib.Decide.{dec_lt}
use lib.ListN.{length, get_or, drop, length-drop, drop_of_length-le}
use lib.Seq.{get_or-drop, drop-drop, drop-length}
use Rattle.chars.specs.Strings.{plain, coded}
use Rattle.chars.specs.Decoding.{code_at, read, sequence_of, units_of, lone, ahead, meaning, paired_with, text_of}
use Rattle.chars.specs.Steps.{Escaped, Leading, Past}
use Rattle.chars.proofs.Laws.Strings.Digits.{code_drop}
use Rattle.chars.proofs.Laws.Strings.Reading.{read_sequence, read_code, units_cons, text_plain, text_coded}
use Rattle.chars.proofs.Laws.Strings.Reading.{paired_bare, paired_letter}

some : (w : List ℕ) (a : ℕ) → get_or w 0 0 ≡ suc a → 0 < length w
some [] a e = omega arith
some (b ∷ w) a e = omega arith

pub leading_text : {w : List ℕ} {a c n : ℕ} → Leading w a → sequence_of w a ≡ read (plain c) n
    → text_of w ≡ ahead c (text_of (drop (suc n) w))
leading_text {w} {a} p e =
    let at : get_or w 0 0 ≡ suc (a - 1) = omega (arith, p.is, p.high) in
    text_plain w (some w (a - 1) at)
    (read_sequence w (λ k. omega (arith, p.is, p.high)) ∙ ap (sequence_of w) (sym p.is) ∙ e)

pub escaped_text : {w : List ℕ} {u : ℕ} → Escaped w → u ≡ code_at w 2 → text_of w ≡ meaning (coded u ∷ units_of (drop 6 w))
escaped_text {w} p e =
    text_coded w (some w 91 p.solidus)
    (read_code w p.solidus p.letter ∙ ap (λ (u : ℕ). read (coded u) 5) (sym e))

module _ (w : List ℕ) (h : ℕ) {b : ℕ} (sixth : b ≡ get_or w 6 0) where
  pub pair_bare : (b ≡ 92 → ⊥) → paired_with h (units_of (drop 6 w)) ≡ lone
  pair_bare k = paired_bare h (drop 6 w) (λ e. k (sixth ∙ sym (get_or-drop 6 w 0 0) ∙ e))

  module _ (e : b ≡ 92) {x : ℕ} (seventh : x ≡ get_or w 7 0) where
    begins : get_or (drop 6 w) 0 0 ≡ 92
    begins = get_or-drop 6 w 0 0 ∙ sym sixth ∙ e

    pub pair_letter : (x ≡ 117 → ⊥) → paired_with h (units_of (drop 6 w)) ≡ lone
    pair_letter k = paired_letter h (drop 6 w) begins (λ f. k (seventh ∙ sym (get_or-drop 6 w 1 0) ∙ f))

    pub pair_code : x ≡ 117 → {l : ℕ} → l ≡ code_at w 8
        → paired_with h (units_of (drop 6 w)) ≡ paired_with h (coded l ∷ units_of (drop 12 w))
    pair_code f {l} g =
        let letter : get_or (drop 6 w) 1 0 ≡ 117 = get_or-drop 6 w 1 0 ∙ sym seventh ∙ f in
        ap (paired_with h)
        (units_cons (drop 6 w) (some (drop 6 w) 91 begins) (read_code (drop 6 w) begins letter)
        ∙ rw (← code_drop w, ← g, drop-drop 6 6 w))

-- ---- the next place

pub past_least : (w : List ℕ) (i n p : ℕ) → i < length w → i < p → p ≤ length w → p ≤ i + 1 + n
    → (p < i + 1 + n → p ≡ length w) → Past w i n p
past_least w i n p h l k g e = record { on = l; inside = k; rest = by (dec_lt p (i + 1 + n)) }
  where
    by : Dec (p < i + 1 + n) → drop p w ≡ drop (suc n) (drop i w)
    by (yes s) =
        let short : length (drop i w) ≤ suc n = omega (arith, length-drop i w, e s) in
        ap (λ (k : ℕ). drop k w) (e s) ∙ drop-length w ∙ sym (drop_of_length-le (drop i w) short)
    by (no s) =
        let all : p ≡ i + suc n = omega arith in
        ap (λ (k : ℕ). drop k w) all ∙ sym (drop-drop (suc n) i w)
