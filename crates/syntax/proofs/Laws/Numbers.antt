-- Numbers, one digit at a time.
use mathlib.Core.Path.{◌≡◌, refl, ap, sym, ◌∙◌}
use mathlib.Core.Bool.{Bool, true, false}
use mathlib.Core.List.{List, [], ◌∷◌}
use Prim.Native.Nat.{ℕ, ◌+◌, ◌*◌, ◌-◌, ◌≤◌, ◌<◌}
use native.Mathlib.Omega.{arith}
use lib.Dec.{eqb, leb}
use lib.ListN.{length, get_or, drop, drop_of_length-le}
use borrow.Author.Tests.{eq-eqb, ne_eqb, le-leb, lt-leb, leb-true}
use Rattle.chars.specs.Base.{pick, within}
use Rattle.chars.proofs.Laws.Tests.{inside}
use Rattle.syntax.specs.Limits.{greatest}
use Rattle.syntax.specs.Forms.{Reading, wrong, read, both, digits_from, number_in}
use Rattle.syntax.specs.Told.{with_digit}
use Rattle.syntax.proofs.Laws.Forms.{drop_next}

-- ---- one digit

module _ (n c : ℕ) where
  pub digit_more : 48 ≤ c → c < 58 → n * 10 + (c - 48) ≤ greatest → read (n * 10 + (c - 48)) ≡ with_digit n c
  unfolding with_digit
  digit_more p q r = rw (inside 48 57 c p (omega arith), le-leb (n * 10 + (c - 48)) greatest r)

  pub digit_great : 48 ≤ c → c < 58 → greatest < n * 10 + (c - 48) → wrong ≡ with_digit n c
  unfolding with_digit
  digit_great p q r = rw (inside 48 57 c p (omega arith), lt-leb (n * 10 + (c - 48)) greatest r)

  pub digit_none : within 48 57 c ≡ false → wrong ≡ with_digit n c
  unfolding with_digit
  digit_none e = rw e

read_inv : {x y : ℕ} → ◌≡◌ {A = Reading ℕ} (read x) (read y) → x ≡ y
read_inv e = cc

wrong_read : {y : ℕ} → ◌≡◌ {A = Reading ℕ} wrong (read y) → ⊥
wrong_read e = let z : ◌≡◌ {A = ℕ} 0 1 = cc in omega arith

one_small : (t : Bool) (n m : ℕ) (a : Reading ℕ) → (n ≤ greatest → a ≡ read m → m ≤ greatest)
    → pick (both t (leb n greatest)) a wrong ≡ read m → m ≤ greatest
one_small t n m a f e = by t (leb n greatest) refl e
  where
    by : (t u : Bool) → leb n greatest ≡ u → pick (both t u) a wrong ≡ read m → m ≤ greatest
    by true true k e = f (leb-true n greatest k) e
    by true false k e = absurd (wrong_read e)
    by false u k e = absurd (wrong_read e)

module _ (n c : ℕ) where
  pub digit_small : {m : ℕ} → with_digit n c ≡ read m → m ≤ greatest
  unfolding with_digit
  digit_small {m} e =
      one_small (within 48 57 c) (n * 10 + (c - 48)) m (read (n * 10 + (c - 48)))
      (λ h k. omega (arith, h, read_inv k)) e

  next_digit : (cs : List ℕ) {m : ℕ} → with_digit n c ≡ read m → digits_from n (c ∷ cs) ≡ digits_from m cs
  unfolding with_digit digits_from
  next_digit cs {m} e = by (both (within 48 57 c) (leb (n * 10 + (c - 48)) greatest)) e
    where
      by : (t : Bool) → pick t (read (n * 10 + (c - 48))) wrong ≡ read m
          → pick t (digits_from (n * 10 + (c - 48)) cs) wrong ≡ digits_from m cs
      by true e = ap (λ (k : ℕ). digits_from k cs) (read_inv e)
      by false e = absurd (wrong_read e)

  last_digit : (cs : List ℕ) → with_digit n c ≡ wrong → digits_from n (c ∷ cs) ≡ wrong
  unfolding with_digit digits_from
  last_digit cs e = by (both (within 48 57 c) (leb (n * 10 + (c - 48)) greatest)) e
    where
      by : (t : Bool) → pick t (read (n * 10 + (c - 48))) wrong ≡ wrong
          → pick t (digits_from (n * 10 + (c - 48)) cs) wrong ≡ wrong
      by true e = absurd (wrong_read (sym e))
      by false e = refl

-- ---- what the loops keep: the number of all digits is that of the digits from place i on, behind n

pub number_none : (cs : List ℕ) → length cs ≡ 0 → number_in cs ≡ wrong
unfolding number_in
number_none [] h = refl
number_none (c ∷ cs) h = absurd (omega arith)

pub number_zero : (cs : List ℕ) → length cs ≡ 1 → get_or cs 0 0 ≡ 48 → number_in cs ≡ read 0
unfolding number_in digits_from
number_zero [] h e = absurd (omega arith)
number_zero (c ∷ []) h e = ap (λ (x : ℕ). number_in (x ∷ [])) e
number_zero (c ∷ d ∷ cs) h e = absurd (omega arith)

pub number_leading : (cs : List ℕ) → (length cs ≡ 0 → ⊥) → (length cs ≡ 1 → ⊥) → get_or cs 0 0 ≡ 48 → number_in cs ≡ wrong
unfolding number_in
number_leading [] h k e = refl
number_leading (c ∷ []) h k e = absurd (k refl)
number_leading (c ∷ d ∷ cs) h k e = rw (eq-eqb c 48 e)

pub record Counted (cs : List ℕ) (n i : ℕ) : Type 0 where
  pub is : number_in cs ≡ digits_from n (drop i cs)
  pub small : n ≤ greatest

number_digits : (cs : List ℕ) → (length cs ≡ 0 → ⊥) → (get_or cs 0 0 ≡ 48 → ⊥) → number_in cs ≡ digits_from 0 cs
unfolding number_in
number_digits [] h k = absurd (h refl)
number_digits (c ∷ []) h k = refl
number_digits (c ∷ d ∷ cs) h k = rw (ne_eqb c 48 k)

pub counted_start : (cs : List ℕ) → (length cs ≡ 0 → ⊥) → (get_or cs 0 0 ≡ 48 → ⊥) → Counted cs 0 0
counted_start cs h k = record { is = number_digits cs h k; small = omega arith }

module _ {cs : List ℕ} {n i : ℕ} (p : Counted cs n i) where
  pub counted_next : {m : ℕ} → i < length cs → read m ≡ with_digit n (get_or cs i 0) → Counted cs m (i + 1)
  counted_next h e =
      record {
        is = p.is ∙ ap (digits_from n) (drop_next cs i h) ∙ next_digit n (get_or cs i 0) (drop (i + 1) cs) (sym e);
        small = digit_small n (get_or cs i 0) (sym e);
      }

  pub counted_stop : i < length cs → wrong ≡ with_digit n (get_or cs i 0) → wrong ≡ number_in cs
  counted_stop h e =
      sym (p.is ∙ ap (digits_from n) (drop_next cs i h) ∙ last_digit n (get_or cs i 0) (drop (i + 1) cs) (sym e))

  pub counted_end : length cs ≤ i → read n ≡ number_in cs
  unfolding digits_from
  counted_end h = sym (p.is ∙ ap (digits_from n) (drop_of_length-le cs h))

-- ---- no number is above the greatest

digits_small : (n : ℕ) (cs : List ℕ) (m : ℕ) → n ≤ greatest → digits_from n cs ≡ read m → m ≤ greatest
unfolding digits_from
digits_small n [] m h e = omega (arith, read_inv e)
digits_small n (c ∷ cs) m h e =
    one_small (within 48 57 c) (n * 10 + (c - 48)) m (digits_from (n * 10 + (c - 48)) cs)
    (digits_small (n * 10 + (c - 48)) cs m) e

first_small : (t : Bool) (cs : List ℕ) {m : ℕ} → pick t wrong (digits_from 0 cs) ≡ read m → m ≤ greatest
first_small true cs e = absurd (wrong_read e)
first_small false cs {m} e = digits_small 0 cs m (omega arith) e

pub number_small : (cs : List ℕ) {m : ℕ} → number_in cs ≡ read m → m ≤ greatest
unfolding number_in
number_small [] e = absurd (wrong_read e)
number_small (c ∷ []) {m} e = digits_small 0 (c ∷ []) m (omega arith) e
number_small (c ∷ d ∷ cs) e = first_small (eqb c 48) (c ∷ d ∷ cs) e
