-- The twin takes all of a number, where no number goes on behind it.
use mathlib.Core.Path.{◌≡◌, refl, sym, ap, ◌∙◌}
use mathlib.Core.Logic.{inl, inr, ⊎_elim}
use mathlib.Core.List.{List, [], ◌∷◌, ◌++◌, append_assoc}
use Prim.Native.Nat.{ℕ, ◌+◌}
use native.Mathlib.Omega.{arith}
use lib.ListN.{length, length-append}
use types.Run.{OneOf}
use Rattle.chars.specs.Base.{In}
use Rattle.text.specs.Json.{Digits, no_digit, digit, Digits₁, digits, Int, zero, from_1_9, Frac, no_frac, frac}
use Rattle.text.specs.Json.{Sign, no_sign, plus, minus, Exp, no_exp, upper, lower, Number, unsigned, negative}
use Rattle.text.specs.Machine.{Item, go, integer, fraction, exponent, sign, value, move, run}
use Rattle.text.specs.Machine as M
use Rattle.text.proofs.Laws.Eating.{Eats, Passed, Calm, run_takes, run_alike, passed_eats}
use Rattle.text.proofs.Laws.Moves.Numbers.{digit_is, digits_is, digits_over, digits_under, exponent_is}
use Rattle.text.proofs.Laws.Moves.Numbers.{fraction_is, fraction_not, integer_more, integer_zero, sign_is}
use Rattle.text.proofs.Laws.Moves.Numbers.{sign_not}
use Rattle.text.proofs.Laws.Moves.Values.{value_digit, value_minus}

-- two lengths behind a place, as one
sum : (v w : List ℕ) (at : ℕ) → at + length v + length w ≡ at + length (v ++ w)
sum v w at = omega (arith, length-append v w)

pub digits_eat : {ds : List ℕ} → Digits ds → (r : List ℕ) → Passed M.digits r → Eats (M.digits ∷ []) ds r
digits_eat no_digit r p k at = passed_eats M.digits r p k at
digits_eat (digit {d} {ds} h t) r p k at =
    run_takes M.digits k (ds ++ r) at d (M.digits ∷ []) (digits_is d h.low (let z = h.high in omega arith))
    ∙ digits_eat t r p k (at + 1)
    ∙ ap (run k r) (omega arith)

pub digits₁_eat : {ds : List ℕ} → Digits₁ ds → (r : List ℕ) → Passed M.digits r → Eats (M.digit ∷ M.digits ∷ []) ds r
digits₁_eat (digits {d} {ds} h t) r p k at =
    run_takes M.digit (M.digits ∷ k) (ds ++ r) at d [] (digit_is d h.low (let z = h.high in omega arith))
    ∙ digits_eat t r p k (at + 1)
    ∙ ap (run k r) (omega arith)

unsign : (d : ℕ) → In 48 57 d → OneOf (43 ∷ 45 ∷ []) d → ⊥
unsign d h = ⊎_elim (λ e. let z = h.low in omega arith) (λ e. let z = h.low in omega arith)

sign_eat : {w ds : List ℕ} → Sign w → Digits₁ ds → (r : List ℕ) (k : List Item) (at : ℕ)
    → run (sign ∷ k) ((w ++ ds) ++ r) at ≡ run k (ds ++ r) (at + length w)
unfolding Passed
sign_eat no_sign (digits {d} {ds} h t) r k at = passed_eats sign (d ∷ (ds ++ r)) (sign_not d (unsign d h)) k at
sign_eat {ds = ds} plus t r k at = run_takes sign k (ds ++ r) at 43 [] (sign_is 43 (inl refl))
sign_eat {ds = ds} minus t r k at = run_takes sign k (ds ++ r) at 45 [] (sign_is 45 (inr refl))

-- the letter and what it owes
power_eat : (b : ℕ) {w ds : List ℕ} → OneOf (69 ∷ 101 ∷ []) b → Sign w → Digits₁ ds → (r : List ℕ) → Passed M.digits r
    → Eats (exponent ∷ []) (b ∷ (w ++ ds)) r
power_eat b {w} {ds} h s d r p k at =
    run_takes exponent k ((w ++ ds) ++ r) at b (sign ∷ M.digit ∷ M.digits ∷ []) (exponent_is b h)
    ∙ sign_eat s d r (M.digit ∷ M.digits ∷ k) (at + 1)
    ∙ digits₁_eat d r p k (at + 1 + length w)
    ∙ ap (run k r) (omega (arith, sum w ds (at + 1)))

pub exp_eat : {x : List ℕ} → Exp x → (r : List ℕ) → Passed exponent r → Passed M.digits r → Eats (exponent ∷ []) x r
exp_eat no_exp r q p k at = passed_eats exponent r q k at
exp_eat (upper s d) r q p k at = power_eat 69 (inl refl) s d r p k at
exp_eat (lower s d) r q p k at = power_eat 101 (inr refl) s d r p k at

-- ---- what stops the digits before a fraction or an exponent

exp_stops : {x : List ℕ} → Exp x → (r : List ℕ) → Passed M.digits r → Passed M.digits (x ++ r)
unfolding Passed
exp_stops no_exp r p = p
exp_stops (upper s d) r p = digits_over 69 (omega arith)
exp_stops (lower s d) r p = digits_over 101 (omega arith)

frac_stops : {f x : List ℕ} → Frac f → Exp x → (r : List ℕ) → Passed M.digits r → Passed M.digits ((f ++ x) ++ r)
unfolding Passed
frac_stops no_frac e r p = exp_stops e r p
frac_stops (frac d) e r p = digits_under 46 (omega arith)

-- ---- fraction, integer, number

-- where there is no fraction, an exponent may stand
bare_eat : {x : List ℕ} → Exp x → (r : List ℕ) → Calm r → Eats (fraction ∷ []) x r
bare_eat no_exp r c k at = passed_eats fraction r c.on_fraction k at
bare_eat (upper {w} {ds} s d) r c k at =
    run_alike fraction k ((w ++ ds) ++ r) at 69 exponent (fraction_not 69 (omega arith))
    ∙ power_eat 69 (inl refl) s d r c.on_digits k at
bare_eat (lower {w} {ds} s d) r c k at =
    run_alike fraction k ((w ++ ds) ++ r) at 101 exponent (fraction_not 101 (omega arith))
    ∙ power_eat 101 (inr refl) s d r c.on_digits k at

pub frac_eat : {f x : List ℕ} → Frac f → Exp x → (r : List ℕ) → Calm r → Eats (fraction ∷ []) (f ++ x) r
frac_eat no_frac e r c k at = bare_eat e r c k at
frac_eat {x = x} (frac {ds} d) e r c k at =
    run_takes fraction k ((ds ++ x) ++ r) at 46 (M.digit ∷ M.digits ∷ exponent ∷ []) (fraction_is 46 refl)
    ∙ ap (λ (l : List ℕ). run (M.digit ∷ M.digits ∷ exponent ∷ k) l (at + 1)) (append_assoc ds x r)
    ∙ digits₁_eat d (x ++ r) (exp_stops e r c.on_digits) (exponent ∷ k) (at + 1)
    ∙ exp_eat e r c.on_exponent c.on_digits k (at + 1 + length ds)
    ∙ ap (run k r) (omega (arith, sum ds x (at + 1)))

pub int_eat : {i f x : List ℕ} → Int i → Frac f → Exp x → (r : List ℕ) → Calm r → Eats (integer ∷ []) (i ++ (f ++ x)) r
int_eat {f = f} {x = x} zero p e r c k at =
    run_takes integer k ((f ++ x) ++ r) at 48 (fraction ∷ []) (integer_zero 48 refl)
    ∙ frac_eat p e r c k (at + 1)
    ∙ ap (run k r) (omega arith)
int_eat {f = f} {x = x} (from_1_9 {d} {ds} h t) p e r c k at =
    run_takes integer k ((ds ++ (f ++ x)) ++ r) at d (M.digits ∷ fraction ∷ []) (more h)
    ∙ ap (λ (l : List ℕ). run (M.digits ∷ fraction ∷ k) l (at + 1)) (append_assoc ds (f ++ x) r)
    ∙ digits_eat t ((f ++ x) ++ r) (frac_stops p e r c.on_digits) (fraction ∷ k) (at + 1)
    ∙ frac_eat p e r c k (at + 1 + length ds)
    ∙ ap (run k r) (omega (arith, sum ds (f ++ x) (at + 1)))
  where
    more : In 49 57 d → move integer d ≡ go (M.digits ∷ fraction ∷ [])
    more h = let l = h.low in let u = h.high in integer_more d (omega arith) (omega arith) (omega arith)

-- a number's first digit begins it as a value does
digit_begins : {i : List ℕ} (n : ℕ) → Int i → (r : List ℕ) (k : List Item) (at : ℕ)
    → run (value n ∷ k) (i ++ r) at ≡ run (integer ∷ k) (i ++ r) at
digit_begins n zero r k at = run_alike (value n) k r at 48 integer (value_digit 48 n (omega arith) (omega arith))
digit_begins n (from_1_9 {d} {ds} h t) r k at =
    run_alike (value n) k (ds ++ r) at d integer
    (let l = h.low in let u = h.high in value_digit d n (omega arith) (omega arith))

pub number_eat : {w : List ℕ} (n : ℕ) → Number w → (r : List ℕ) → Calm r → Eats (value n ∷ []) w r
number_eat n (unsigned {i} {f} {x} p q e) r c k at =
    ap (λ (l : List ℕ). run (value n ∷ k) l at) (append_assoc i (f ++ x) r)
    ∙ digit_begins n p ((f ++ x) ++ r) k at
    ∙ ap (λ (l : List ℕ). run (integer ∷ k) l at) (sym (append_assoc i (f ++ x) r))
    ∙ int_eat p q e r c k at
number_eat n (negative {i} {f} {x} p q e) r c k at =
    run_takes (value n) k ((i ++ (f ++ x)) ++ r) at 45 (integer ∷ []) (value_minus 45 n refl)
    ∙ int_eat p q e r c k (at + 1)
    ∙ ap (run k r) (omega arith)
