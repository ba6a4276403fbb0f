-- What bytes begin with, the units one by one, and what units say: each by the tests that find it out.
use mathlib.Core.Path.{◌≡◌, refl, ap, ◌∙◌}
use mathlib.Core.Bool.{Bool, true, false}
use mathlib.Core.List.{List, [], ◌∷◌}
use Prim.Native.Nat.{ℕ, zero, suc, ◌+◌, ◌*◌, ◌%◌, ◌≤◌, ◌<◌}
use native.Mathlib.Omega.{arith}
use lib.Dec.{ltb}
use lib.ListN.{length, get_or, drop}
use borrow.Author.Tests.{le-ltb, lt-ltb, eq-eqb, ne_eqb}
use Rattle.chars.specs.Base.{pick}
use Rattle.chars.specs.Strings.{Unit, plain, coded, High, Low, paired}
use Rattle.chars.specs.Decoding.{code_at, letter_of, Read, read, sequence_of, read_of, on_read, units_behind, units_of}
use Rattle.chars.specs.Decoding.{lone, ahead, meaning, paired_with, text_of}
use Rattle.chars.proofs.Laws.Strings.Digits.{Outside, under, over, within_inside, within_outside}

-- ---- what bytes begin with

module _ (w : List ℕ) (a : ℕ) where
  pub sequence_one : a < 128 → sequence_of w a ≡ read (plain a) 0
  unfolding sequence_of
  sequence_one h = simp (lt-ltb a 128 h)

  pub sequence_two : 128 ≤ a → a < 224 → sequence_of w a ≡ read (plain (a % 32 * 64 + get_or w 1 0 % 64)) 1
  unfolding sequence_of
  sequence_two h k = simp (le-ltb a 128 h, lt-ltb a 224 k)

  pub sequence_three : 224 ≤ a → a < 240
      → sequence_of w a ≡ read (plain (a % 16 * 4096 + get_or w 1 0 % 64 * 64 + get_or w 2 0 % 64)) 2
  unfolding sequence_of
  sequence_three h k = simp (le-ltb a 128 (omega arith), le-ltb a 224 h, lt-ltb a 240 k)

  pub sequence_four : 240 ≤ a
      → sequence_of w a
      ≡ read (plain (a % 8 * 262144 + get_or w 1 0 % 64 * 4096 + get_or w 2 0 % 64 * 64 + get_or w 3 0 % 64)) 3
  unfolding sequence_of
  sequence_four h = simp (le-ltb a 128 (omega arith), le-ltb a 224 (omega arith), le-ltb a 240 h)

module _ (w : List ℕ) where
  pub read_sequence : (get_or w 0 0 ≡ 92 → ⊥) → read_of w ≡ sequence_of w (get_or w 0 0)
  unfolding read_of
  read_sequence h = rw (ne_eqb (get_or w 0 0) 92 h)

  pub read_letter : get_or w 0 0 ≡ 92 → (get_or w 1 0 ≡ 117 → ⊥) → read_of w ≡ read (plain (letter_of (get_or w 1 0))) 1
  unfolding read_of
  read_letter h k = rw (eq-eqb (get_or w 0 0) 92 h, ne_eqb (get_or w 1 0) 117 k)

  pub read_code : get_or w 0 0 ≡ 92 → get_or w 1 0 ≡ 117 → read_of w ≡ read (coded (code_at w 2)) 5
  unfolding read_of
  read_code h k = rw (eq-eqb (get_or w 0 0) 92 h, eq-eqb (get_or w 1 0) 117 k)

-- ---- the units, one by one

units_behind_lem : (n : ℕ) (w : List ℕ) → units_behind n w ≡ units_of (drop n w)
unfolding units_behind
units_behind_lem zero w = refl
units_behind_lem (suc n) [] = refl
units_behind_lem (suc n) (b ∷ w) = units_behind_lem n w

pub units_cons : (w : List ℕ) {u : Unit} {n : ℕ} → 0 < length w → read_of w ≡ read u n
    → units_of w ≡ u ∷ units_of (drop (suc n) w)
unfolding units_behind
units_cons [] h e = let z : ⊥ = omega arith in elim z [ ]
units_cons (b ∷ w) {u} {n} h e =
    ap (λ (r : Read). on_read r (λ k. units_behind k w)) e ∙ ap (λ (us : List Unit). u ∷ us) (units_behind_lem n w)

-- ---- what the units say

module _ (u : ℕ) (us : List Unit) where
  pub meaning_apart : Outside 55296 57343 u → meaning (coded u ∷ us) ≡ ahead u (meaning us)
  unfolding meaning
  meaning_apart p = rw (within_outside (first p), within_outside (second p))
    where
      first : Outside 55296 57343 u → Outside 55296 56319 u
      first (under h) = under h
      first (over h) = over (omega arith)

      second : Outside 55296 57343 u → Outside 56320 57343 u
      second (under h) = under (omega arith)
      second (over h) = over h

  pub meaning_high : High u → meaning (coded u ∷ us) ≡ paired_with u us
  unfolding meaning
  meaning_high p = rw (within_inside p)

  pub meaning_low : Low u → meaning (coded u ∷ us) ≡ lone
  unfolding meaning
  meaning_low p = rw (within_outside {lo = 55296} {hi = 56319} {b = u} (over (omega (arith, p.low))), within_inside p)

module _ (h l : ℕ) (us : List Unit) where
  pub paired_low : Low l → paired_with h (coded l ∷ us) ≡ ahead (paired h l) (meaning us)
  unfolding meaning
  paired_low p = rw (within_inside p)

  pub paired_apart : Outside 56320 57343 l → paired_with h (coded l ∷ us) ≡ lone
  unfolding meaning
  paired_apart p = rw (within_outside p)

-- ---- the text by what it begins with

module _ (w : List ℕ) (h : 0 < length w) where
  pub text_plain : {c n : ℕ} → read_of w ≡ read (plain c) n → text_of w ≡ ahead c (text_of (drop (suc n) w))
  unfolding text_of meaning
  text_plain e = ap meaning (units_cons w h e)

  pub text_coded : {u : ℕ} → read_of w ≡ read (coded u) 5 → text_of w ≡ meaning (coded u ∷ units_of (drop 6 w))
  unfolding text_of
  text_coded e = ap meaning (units_cons w h e)

-- what is no escape by digits is no second half
data Plain : Read → Type 0 where
  is_plain_lem : {c n : ℕ} → Plain (read (plain c) n)

plain_pick : (t : Bool) {x y : Read} → Plain x → Plain y → Plain (pick t x y)
plain_pick true p q = p
plain_pick false p q = q

sequence_plain : (w : List ℕ) (a : ℕ) → Plain (sequence_of w a)
unfolding sequence_of
sequence_plain w a =
    plain_pick (ltb a 128) is_plain_lem (plain_pick (ltb a 224) is_plain_lem (plain_pick (ltb a 240) is_plain_lem is_plain_lem))

paired_plain : (h b : ℕ) (w : List ℕ) {r : Read} → Plain r → read_of (b ∷ w) ≡ r → paired_with h (units_of (b ∷ w)) ≡ lone
unfolding meaning
paired_plain h b w is_plain_lem e = ap (paired_with h) (units_cons (b ∷ w) (omega arith) e)

module _ (h : ℕ) where
  pub paired_bare : (w : List ℕ) → (get_or w 0 0 ≡ 92 → ⊥) → paired_with h (units_of w) ≡ lone
  unfolding meaning units_behind
  paired_bare [] k = refl
  paired_bare (b ∷ w) k = paired_plain h b w (sequence_plain (b ∷ w) b) (read_sequence (b ∷ w) k)

  pub paired_letter : (w : List ℕ) → get_or w 0 0 ≡ 92 → (get_or w 1 0 ≡ 117 → ⊥) → paired_with h (units_of w) ≡ lone
  unfolding meaning units_behind
  paired_letter [] e k = refl
  paired_letter (b ∷ w) e k = paired_plain h b w is_plain_lem (read_letter (b ∷ w) e k)
