-- The bytes of a number that is owed are the grammar's, part by part.
use mathlib.Core.Path.{◌≡◌, refl, ap, ◌∙◌}
use mathlib.Core.Logic.{inl, inr, ⊎_elim}
use mathlib.Core.List.{List, [], ◌∷◌, ◌++◌}
use Prim.Native.Nat.{ℕ, zero, ◌+◌, ◌≤◌, ◌<◌}
use native.Mathlib.Omega.{arith}
use native.Mathlib.Decide.{dec_lt, ℕ_discrete}
use lib.ListN.{length, get_or, length-append}
use types.Run.{OneOf}
use Rattle.text.specs.Json.{Digits, no_digit, digit, Digits₁, digits, Int, zero, from_1_9, Frac, no_frac, frac}
use Rattle.text.specs.Json.{Sign, no_sign, plus, minus, Exp, no_exp, upper, lower, Spelt}
use Rattle.text.specs.Machine.{Item, integer, fraction, exponent, sign, optional}
use Rattle.text.specs.Machine as M
use Rattle.text.proofs.Laws.Places.{Alive, alive_inside}
use Rattle.text.proofs.Laws.Parts.{spelt_one, spelt_length}
use Rattle.text.proofs.Laws.Moves.Numbers.{digit_is, digit_over, digit_under, digits_is, digits_over}
use Rattle.text.proofs.Laws.Moves.Numbers.{digits_under, exponent_is, exponent_not, fraction_is, fraction_not}
use Rattle.text.proofs.Laws.Moves.Numbers.{integer_more, integer_over, integer_under, integer_zero, sign_is}
use Rattle.text.proofs.Laws.Moves.Numbers.{sign_not}
use Rattle.text.proofs.Laws.Taking.Items.{from_end, Took, alive_takes, alive_passes, alive_skips, alive_refuses}
use Rattle.text.proofs.Laws.Taking.Items.{alive_alike, took_none, here, took_cons, took_two}

digits_step : {s : List ℕ} {i : ℕ} (ys : List Item) → Alive s (M.digits ∷ ys) i
    → ((j : ℕ) → i < j → j ≤ length s → Alive s (M.digits ∷ ys) j → Took Digits s ys j) → Took Digits s ys i
unfolding optional
digits_step {s} {i} ys v on = by (dec_lt i (length s)) (dec_lt (get_or s i 0) 48) (dec_lt (get_or s i 0) 58)
  where
    none : Alive s ys i → Took Digits s ys i
    none a = took_none M.digits ys v no_digit a

    by : Dec (i < length s) → Dec (get_or s i 0 < 48) → Dec (get_or s i 0 < 58) → Took Digits s ys i
    by (no h) d e = none (alive_skips M.digits ys v h refl)
    by (yes h) (yes d) e = none (alive_passes M.digits ys v h (digits_under (get_or s i 0) d))
    by (yes h) (no d) (no e) = none (alive_passes M.digits ys v h (digits_over (get_or s i 0) (omega arith)))
    by (yes h) (no d) (yes e) =
        let a = alive_takes M.digits ys v (M.digits ∷ []) h (digits_is (get_or s i 0) (omega arith) e) in
        let r = on (i + 1) (omega arith) (omega arith) a in
        took_cons (here s i h) r (digit {d = get_or s i 0} (record { low = omega arith; high = omega arith }) r.good)

took_digits : {s : List ℕ} {i : ℕ} (ys : List Item) → Alive s (M.digits ∷ ys) i → Took Digits s ys i
took_digits {s} {i} ys v =
    from_end s (λ j. Alive s (M.digits ∷ ys) j → Took Digits s ys j) (λ j h on w. digits_step ys w on) i v.high v

took_digits₁ : {s : List ℕ} {i : ℕ} (ys : List Item) → Alive s (M.digit ∷ M.digits ∷ ys) i → Took Digits₁ s ys i
unfolding optional
took_digits₁ {s} {i} ys v =
    by (alive_inside M.digit (M.digits ∷ ys) refl v) (dec_lt (get_or s i 0) 48) (dec_lt (get_or s i 0) 58)
  where
    by : i < length s → Dec (get_or s i 0 < 48) → Dec (get_or s i 0 < 58) → Took Digits₁ s ys i
    by h (yes d) e = absurd (alive_refuses M.digit (M.digits ∷ ys) v h (digit_under (get_or s i 0) d))
    by h (no d) (no e) = absurd (alive_refuses M.digit (M.digits ∷ ys) v h (digit_over (get_or s i 0) (omega arith)))
    by h (no d) (yes e) =
        let r = took_digits ys (alive_takes M.digit (M.digits ∷ ys) v [] h (digit_is (get_or s i 0) (omega arith) e)) in
        took_cons (here s i h) r (digits {d = get_or s i 0} (record { low = omega arith; high = omega arith }) r.good)

took_sign : {s : List ℕ} {i : ℕ} (ys : List Item) → Alive s (sign ∷ ys) i → Took Sign s ys i
unfolding optional
took_sign {s} {i} ys v = by (dec_lt i (length s)) (ℕ_discrete (get_or s i 0) 43) (ℕ_discrete (get_or s i 0) 45)
  where
    some : (b : ℕ) → i < length s → get_or s i 0 ≡ b → Sign (b ∷ []) → OneOf (43 ∷ 45 ∷ []) (get_or s i 0)
        → Took Sign s ys i
    some b h e g o =
        record {
          word = b ∷ [];
          stop = i + 1;
          spelt = spelt_one (record { inside = h; is = e });
          good = g;
          next = alive_takes sign ys v [] h (sign_is (get_or s i 0) o);
        }

    by : Dec (i < length s) → Dec (get_or s i 0 ≡ 43) → Dec (get_or s i 0 ≡ 45) → Took Sign s ys i
    by (no h) d e = took_none sign ys v no_sign (alive_skips sign ys v h refl)
    by (yes h) (yes d) e = some 43 h d plus (inl d)
    by (yes h) (no d) (yes e) = some 45 h e minus (inr e)
    by (yes h) (no d) (no e) =
        took_none sign ys v no_sign (alive_passes sign ys v h (sign_not (get_or s i 0) (⊎_elim d e)))

took_exp : {s : List ℕ} {i : ℕ} (ys : List Item) → Alive s (exponent ∷ ys) i → Took Exp s ys i
unfolding optional
took_exp {s} {i} ys v = by (dec_lt i (length s)) (ℕ_discrete (get_or s i 0) 69) (ℕ_discrete (get_or s i 0) 101)
  where
    some : (b : ℕ) → i < length s → get_or s i 0 ≡ b → OneOf (69 ∷ 101 ∷ []) (get_or s i 0)
        → ((w ds : List ℕ) → Sign w → Digits₁ ds → Exp (b ∷ (w ++ ds))) → Took Exp s ys i
    some b h e o make =
        let a = alive_takes exponent ys v (sign ∷ M.digit ∷ M.digits ∷ []) h (exponent_is (get_or s i 0) o) in
        let p = took_sign (M.digit ∷ M.digits ∷ ys) a in
        let q = took_digits₁ ys p.next in
        took_two (record { inside = h; is = e }) p q (make p.word q.word p.good q.good)

    by : Dec (i < length s) → Dec (get_or s i 0 ≡ 69) → Dec (get_or s i 0 ≡ 101) → Took Exp s ys i
    by (no h) d e = took_none exponent ys v no_exp (alive_skips exponent ys v h refl)
    by (yes h) (yes d) e = some 69 h d (inl d) (λ w ds p q. upper p q)
    by (yes h) (no d) (yes e) = some 101 h e (inr e) (λ w ds p q. lower p q)
    by (yes h) (no d) (no e) =
        took_none exponent ys v no_exp (alive_passes exponent ys v h (exponent_not (get_or s i 0) (⊎_elim d e)))

-- a fraction or none, and then an exponent or none
record Ending (w : List ℕ) : Type 0 where
  f : List ℕ
  x : List ℕ
  is : w ≡ f ++ x
  frac_is : Frac f
  exp_is : Exp x

ending : {f x : List ℕ} → Frac f → Exp x → Ending (f ++ x)
ending {f} {x} p q = record { f = f; x = x; is = refl; frac_is = p; exp_is = q }

took_ending : {s : List ℕ} {i : ℕ} (ys : List Item) → Alive s (fraction ∷ ys) i → Took Ending s ys i
unfolding optional
took_ending {s} {i} ys v = by (dec_lt i (length s)) (ℕ_discrete (get_or s i 0) 46)
  where
    by : Dec (i < length s) → Dec (get_or s i 0 ≡ 46) → Took Ending s ys i
    by (no h) d = took_none fraction ys v (ending no_frac no_exp) (alive_skips fraction ys v h refl)
    by (yes h) (no d) =
        let r = took_exp ys (alive_alike fraction ys v exponent h (fraction_not (get_or s i 0) d)) in
        record { word = r.word; stop = r.stop; spelt = r.spelt; good = ending no_frac r.good; next = r.next }
    by (yes h) (yes d) =
        let a = alive_takes fraction ys v (M.digit ∷ M.digits ∷ exponent ∷ []) h (fraction_is (get_or s i 0) d) in
        let p = took_digits₁ (exponent ∷ ys) a in
        let q = took_exp ys p.next in
        took_two (record { inside = h; is = d }) p q (ending (frac p.good) q.good)

-- an integer and its ending
pub record Plain (w : List ℕ) : Type 0 where
  pub i : List ℕ
  pub f : List ℕ
  pub x : List ℕ
  pub is : w ≡ i ++ (f ++ x)
  pub int_is : Int i
  pub frac_is : Frac f
  pub exp_is : Exp x

plain_of : (i w : List ℕ) → Int i → Ending w → Plain (i ++ w)
plain_of i w n e =
    record {
      i = i;
      f = e.f;
      x = e.x;
      is = ap (λ (l : List ℕ). i ++ l) e.is;
      int_is = n;
      frac_is = e.frac_is;
      exp_is = e.exp_is;
    }

pub took_plain : {s : List ℕ} {i : ℕ} (ys : List Item) → Alive s (integer ∷ ys) i → Took Plain s ys i
unfolding optional
took_plain {s} {i} ys v =
    by (alive_inside integer ys refl v) (ℕ_discrete (get_or s i 0) 48) (dec_lt (get_or s i 0) 48) (dec_lt (get_or s i 0) 58)
  where
    by : i < length s → Dec (get_or s i 0 ≡ 48) → Dec (get_or s i 0 < 48) → Dec (get_or s i 0 < 58) → Took Plain s ys i
    by h (yes d) e f =
        let r = took_ending ys (alive_takes integer ys v (fraction ∷ []) h (integer_zero (get_or s i 0) d)) in
        took_cons (record { inside = h; is = d }) r (plain_of (48 ∷ []) r.word zero r.good)
    by h (no d) (yes e) f = absurd (alive_refuses integer ys v h (integer_under (get_or s i 0) e))
    by h (no d) (no e) (no f) = absurd (alive_refuses integer ys v h (integer_over (get_or s i 0) (omega arith)))
    by h (no d) (no e) (yes f) =
        let a = alive_takes integer ys v (M.digits ∷ fraction ∷ []) h (integer_more (get_or s i 0) d (omega arith) f) in
        let p = took_digits (fraction ∷ ys) a in
        let q = took_ending ys p.next in
        let n = from_1_9 {d = get_or s i 0} (record { low = omega arith; high = omega arith }) p.good in
        took_two (here s i h) p q (plain_of (get_or s i 0 ∷ p.word) q.word n q.good)

-- a number has a byte at least
pub plain_later : {s w : List ℕ} {i e : ℕ} → Plain w → Spelt s w i e → i < e
plain_later {s} {w} {i} {e} g p =
    let l = spelt_length p in
    let n = ap length g.is ∙ length-append g.i (g.f ++ g.x) in
    let z = int_length g.int_is in
    omega arith
  where
    int_length : {v : List ℕ} → Int v → 0 < length v
    int_length zero = omega arith
    int_length (from_1_9 h t) = omega arith
