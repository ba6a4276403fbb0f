-- Digits of the written form: they read back as the number (digits_round), and are characters (digits_scalars).
use mathlib.Core.Path.{◌≡◌, sym, ap, ◌∙◌, subst}
use mathlib.Core.List.{List, [], ◌∷◌, ◌++◌, append_assoc, append-nil}
use Prim.Native.Nat.{ℕ, zero, suc, ◌+◌, ◌*◌, ◌-◌, ◌/◌, ◌%◌, ◌^◌, ◌≤◌, ◌<◌}
use native.Mathlib.Omega.{arith}
use native.Mathlib.Decide.{dec_lt, ℕ_discrete}
use lib.ListN.{length, get_or, length-append, get_or-append}
use borrow.Author.Tests.{le-leb, lt-ltb, le-ltb}
use Rattle.chars.proofs.Laws.Tests.{inside}
use Rattle.chars.specs.Written.{Scalars}
use Rattle.chars.specs.Written as W
use Rattle.syntax.specs.Limits.{greatest}
use Rattle.syntax.specs.Forms.{read, digits_from, number_in}
use Rattle.writing.specs.WrittenForm.{digits_up_to, digits_of}
use Rattle.syntax.proofs.Laws.Numbers.{counted_start}
use Rattle.writing.proofs.Laws.TreeSpelling.{ascii}

-- one digit more
digit_step : (m d n : ℕ) (ds : List ℕ) → d ≤ 9 → m * 10 + d ≡ n → n ≤ greatest
    → digits_from m ((48 + d) ∷ ds) ≡ digits_from n ds
unfolding digits_from
digit_step m d n ds h e k =
    let same : m * 10 + (48 + d - 48) ≡ n = omega arith in
    rw (inside 48 57 (48 + d) (omega arith) (omega arith), same, le-leb n greatest k)

last_digit : (k n : ℕ) → n < 10 → digits_up_to k n ≡ (48 + n) ∷ []
unfolding digits_up_to
last_digit zero n h = let e : n % 10 ≡ n = omega arith in ap (λ (d : ℕ). (48 + d) ∷ []) e
last_digit (suc k) n h = rw (lt-ltb n 10 h)

more_digits : (k n : ℕ) → 10 ≤ n → digits_up_to (suc k) n ≡ digits_up_to k (n / 10) ++ ((48 + n % 10) ∷ [])
unfolding digits_up_to
more_digits k n h = rw (le-ltb n 10 h)

digits_read : (k n : ℕ) (ds : List ℕ) → n < 10 ^ suc k → n ≤ greatest
    → digits_from 0 (digits_up_to k n ++ ds) ≡ digits_from n ds
digits_read zero n ds h g =
    ap (λ (l : List ℕ). digits_from 0 (l ++ ds)) (last_digit zero n (omega arith))
    ∙ digit_step 0 n n ds (omega arith) (omega arith) g
digits_read (suc k) n ds h g =
    by (dec_lt n 10) (digits_read k (n / 10) ((48 + n % 10) ∷ ds) (omega arith) (omega arith))
  where
    by : Dec (n < 10)
        → digits_from 0 (digits_up_to k (n / 10) ++ ((48 + n % 10) ∷ ds)) ≡ digits_from (n / 10) ((48 + n % 10) ∷ ds)
        → digits_from 0 (digits_up_to (suc k) n ++ ds) ≡ digits_from n ds
    by (yes s) r =
        ap (λ (l : List ℕ). digits_from 0 (l ++ ds)) (last_digit (suc k) n s)
        ∙ digit_step 0 n n ds (omega arith) (omega arith) g
    by (no s) r =
        ap (λ (l : List ℕ). digits_from 0 (l ++ ds)) (more_digits k n (omega arith))
        ∙ ap (digits_from 0) (append_assoc (digits_up_to k (n / 10)) ((48 + n % 10) ∷ []) ds)
        ∙ r ∙ digit_step (n / 10) (n % 10) n ds (omega arith) (omega arith) g

-- ---- no leading zero

digits_some : (k n : ℕ) → 0 < length (digits_up_to k n)
unfolding digits_up_to
digits_some zero n = omega arith
digits_some (suc k) n = by (dec_lt n 10)
  where
    by : Dec (n < 10) → 0 < length (digits_up_to (suc k) n)
    by (yes s) = omega (arith, ap length (last_digit (suc k) n s))
    by (no s) =
        omega (
          arith,
          ap length (more_digits k n (omega arith)),
          length-append (digits_up_to k (n / 10)) ((48 + n % 10) ∷ []),
        )

first_digit : (k n : ℕ) → 0 < n → n < 10 ^ suc k → 48 < get_or (digits_up_to k n) 0 0
first_digit zero n h g = omega (arith, ap (λ (l : List ℕ). get_or l 0 0) (last_digit zero n (omega arith)))
first_digit (suc k) n h g = by (dec_lt n 10) (λ (s : 0 < n / 10). first_digit k (n / 10) s (omega arith))
  where
    by : Dec (n < 10) → (0 < n / 10 → 48 < get_or (digits_up_to k (n / 10)) 0 0) → 48 < get_or (digits_up_to (suc k) n) 0 0
    by (yes s) r = omega (arith, ap (λ (l : List ℕ). get_or l 0 0) (last_digit (suc k) n s))
    by (no s) r =
        let l = digits_up_to k (n / 10) in
        omega (
          arith,
          r (omega arith),
          ap (λ (l : List ℕ). get_or l 0 0) (more_digits k n (omega arith)),
          get_or-append l ((48 + n % 10) ∷ []) 0 0 (digits_some k (n / 10)),
        )

pub digits_round : (n : ℕ) → n ≤ greatest → number_in (digits_of n) ≡ read n
unfolding number_in digits_from digits_up_to
digits_round n h = by (ℕ_discrete n 0)
  where
    by : Dec (n ≡ 0) → number_in (digits_of n) ≡ read n
    by (yes e) = ap (λ (m : ℕ). number_in (digits_of m)) e ∙ ap read (sym e)
    by (no e) =
        let ds = digits_of n in
        let some = digits_some 15 n in
        let first = first_digit 15 n (omega arith) (omega arith) in
        (counted_start ds (omega arith) (omega arith)).is
        ∙ ap (digits_from 0) (sym (append-nil ds))
        ∙ digits_read 15 n [] (omega arith) h

-- ---- characters

digits_all : (k n : ℕ) (cs : List ℕ) → Scalars cs → Scalars (digits_up_to k n ++ cs)
unfolding digits_up_to
digits_all zero n cs s = W.more (ascii (48 + n % 10) (omega arith)) s
digits_all (suc k) n cs s =
    by (dec_lt n 10)
    (digits_all k (n / 10) ((48 + n % 10) ∷ cs) (W.more (ascii (48 + n % 10) (omega arith)) s))
  where
    by : Dec (n < 10) → Scalars (digits_up_to k (n / 10) ++ ((48 + n % 10) ∷ cs)) → Scalars (digits_up_to (suc k) n ++ cs)
    by (yes h) r = rw (last_digit (suc k) n h) (W.more (ascii (48 + n) (omega arith)) s)
    by (no h) r =
        rw (more_digits k n (omega arith), append_assoc (digits_up_to k (n / 10)) ((48 + n % 10) ∷ []) cs) r

pub digits_scalars : (n : ℕ) → Scalars (digits_of n)
digits_scalars n = subst Scalars (append-nil (digits_of n)) (digits_all 15 n [] W.none)
