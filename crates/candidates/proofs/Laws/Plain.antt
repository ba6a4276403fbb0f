-- The symbols of a candidate: characters that stand for themselves where it stands, which are no wildcards, and a final
-- star (Sign).
use mathlib.Core.Path.{◌≡◌, refl, sym}
use mathlib.Core.Bool.{Bool, true, false}
use mathlib.Core.List.{List, [], ◌∷◌, ◌++◌, map}
use Prim.Native.Nat.{ℕ, ◌<◌}
use native.Mathlib.Omega.{arith}
use native.Mathlib.Decide.{ℕ_discrete}
use lib.Dec.{leb}
use borrow.Author.Tests.{leb-true, eq-eqb, ne_eqb}
use Rattle.chars.specs.Base.{within, one_of}
use Rattle.chars.specs.Written.{Scalar, low, high}
use Rattle.syntax.specs.Policy.{star, any}
use Rattle.syntax.specs.Forms.{either, all, wildcard}
use Rattle.parts.proofs.Laws.Slots.{true_false, both_true}
use Rattle.syntax.proofs.Laws.Characters.{wildcard_none}
use Rattle.writing.specs.WrittenForm.{bare}
use Rattle.writing.specs.Valid.{Each, none, more, Symbol, plain, run, Symbols}
use Rattle.candidates.specs.Entries.{Place, in_action, in_resource, in_row, wildcards, is_scalar, is_plain}
use Rattle.candidates.proofs.Laws.Wildcards.{plain_cons}

scalar_inv : (c : ℕ) → is_scalar c ≡ true → Scalar c
unfolding is_scalar
scalar_inv c e = by (leb c 55295) refl e
  where
    by : (b : Bool) → leb c 55295 ≡ b → either b (within 57344 1114111 c) ≡ true → Scalar c
    by true h e = low (leb-true c 55295 h)
    by false h e =
        let p = both_true (leb 57344 c) (leb c 1114111) e in
        high (record { low = leb-true 57344 c p.0; high = leb-true c 1114111 p.1 })

pub scalar_below : {c : ℕ} → Scalar c → c < star
scalar_below (low h) = omega arith
scalar_below (high i) = let h = i.high in omega arith

-- in an Action neither * nor ?
record Own (c : ℕ) : Type 0 where
  scalar : is_scalar c ≡ true
  no_star : c ≡ 42 → ⊥
  no_any : c ≡ 63 → ⊥

own : (c : ℕ) → is_plain in_action c ≡ true → Own c
unfolding one_of
own c e = by (ℕ_discrete c 42) (ℕ_discrete c 63)
  where
    by : Dec (c ≡ 42) → Dec (c ≡ 63) → Own c
    by (yes h) d = absurd (true_false (rw (eq-eqb c 42 h) at e) refl)
    by (no n) (yes h) = absurd (true_false (rw (ne_eqb c 42 n, eq-eqb c 63 h) at e) refl)
    by (no n) (no o) = record { scalar = rw (ne_eqb c 42 n, ne_eqb c 63 o) at e; no_star = n; no_any = o }

plain_scalar : (p : Place) (c : ℕ) → is_plain p c ≡ true → is_scalar c ≡ true
plain_scalar in_action c e = (own c e).scalar
plain_scalar in_resource c e = e
plain_scalar (in_row o) c e = e

pub plain_bare : (p : Place) (c : ℕ) → is_plain p c ≡ true → bare c ≡ c
unfolding bare
plain_bare p c e =
    let s = scalar_below (scalar_inv c (plain_scalar p c e)) in
    rw (ne_eqb c star (λ i. omega arith), ne_eqb c any (λ i. omega arith)) refl

-- the symbols of a candidate: plain, or the star
pub data Sign (p : Place) : ℕ → Type 0 where
  plainly : {c : ℕ} → is_plain p c ≡ true → Sign p c
  final : Sign p star

module _ (p : Place) where
  pub signs : (t r : List ℕ) → all (is_plain p) t ≡ true → Each ℕ (Sign p) r → Each ℕ (Sign p) (t ++ r)
  unfolding all
  signs [] r e f = f
  signs (c ∷ t) r e f =
      let h = both_true (is_plain p c) (all (is_plain p) t) e in more (plainly h.0) (signs t r h.1 f)

  pub no_wildcards : (t : List ℕ) → all (is_plain p) t ≡ true → wildcards t ≡ 0
  unfolding all wildcards
  no_wildcards [] e = refl
  no_wildcards (c ∷ t) e =
      let h = both_true (is_plain p c) (all (is_plain p) t) e in
      let s = scalar_below (scalar_inv c (plain_scalar p c h.0)) in
      plain_cons {y = c} {ys = t}
      (record { no_star = λ i. omega arith; no_any = λ i. omega arith; rest = no_wildcards t h.1 })

  symbol : {y : ℕ} → Sign p y → Symbol y
  symbol (plainly {c = c} e) = plain (scalar_inv c (plain_scalar p c e))
  symbol final = run

  pub symbols : {ys : List ℕ} → Each ℕ (Sign p) ys → Symbols ys
  symbols none = none
  symbols (more s ss) = more (symbol s) (symbols ss)

-- ---- an Action, there and back

back : {y : ℕ} → Sign in_action y → wildcard (bare y) ≡ y
unfolding bare wildcard
back (plainly {c = c} e) =
    let o = own c e in
    let s = scalar_below (scalar_inv c o.scalar) in
    rw (ne_eqb c star (λ i. omega arith), ne_eqb c any (λ i. omega arith))
    (sym (wildcard_none c o.no_star o.no_any))
back final = refl

pub all_back : {ys : List ℕ} → Each ℕ (Sign in_action) ys → ys ≡ map wildcard (map bare ys)
all_back none = refl
all_back (more s ss) = rw (back s, ← all_back ss)
