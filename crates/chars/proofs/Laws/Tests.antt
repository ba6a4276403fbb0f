-- What the tests of specs/Base come to, from facts about the numbers.
use mathlib.Core.Path.{◌≡◌, refl, subst}
use mathlib.Core.Bool.{Bool, true, false, ◌||◌, ◌&&◌}
use mathlib.Core.Logic.{inl, inr}
use mathlib.Core.List.{List, [], ◌∷◌}
use Prim.Native.Nat.{ℕ, ◌+◌, ◌≤◌, ◌<◌}
use native.Mathlib.Omega.{arith}
use native.Mathlib.Decide.{dec_lt}
use lib.Dec.{eqb, leb}
use borrow.Author.Tests.{le-leb, lt-leb, eq-eqb, ne_eqb}
use types.Run.{OneOf}
use Rattle.chars.specs.Base.{pick, within, one_of}

pub inside : (lo hi b : ℕ) → lo ≤ b → b ≤ hi → within lo hi b ≡ true
inside lo hi b p q = simp (le-leb lo b p, le-leb b hi q)

pub under : (lo hi b : ℕ) → b < lo → within lo hi b ≡ false
under lo hi b p = simp (lt-leb lo b p)

both_false : (t : Bool) → pick t false false ≡ false
both_false true = refl
both_false false = refl

pub over : (lo hi b : ℕ) → hi < b → within lo hi b ≡ false
over lo hi b p = rw (lt-leb b hi p) (both_false (leb lo b))

or_true : (t u : Bool) → u ≡ true → pick t true u ≡ true
or_true true u e = refl
or_true false u e = e

-- a match on several numbers met one of them, or none
pub among : (xs : List ℕ) (b : ℕ) → OneOf xs b → one_of xs b ≡ true
unfolding one_of
among [] b h = absurd h
among (x ∷ []) b h = simp (eq-eqb b x h)
among (x ∷ y ∷ xs) b (inl h) = simp (eq-eqb b x h)
among (x ∷ y ∷ xs) b (inr h) = or_true (eqb b x) (one_of (y ∷ xs) b) (among (y ∷ xs) b h)

pub outside : (xs : List ℕ) (b : ℕ) → (OneOf xs b → ⊥) → one_of xs b ≡ false
unfolding one_of
outside [] b h = refl
outside (x ∷ []) b h = simp (ne_eqb b x h)
outside (x ∷ y ∷ xs) b h = rw (ne_eqb b x (λ e. h (inl e))) (outside (y ∷ xs) b (λ e. h (inr e)))

-- tests made one of several without branches
pub neither : (t u : Bool) → (t || u) ≡ false → (t ≡ false) × (u ≡ false)
neither true u h = let z : ◌≡◌ {A = Bool} true false = h in (z, cc)
neither false u h = (refl, h)

pub each_true : (t u : Bool) → (t && u) ≡ true → (t ≡ true) × (u ≡ true)
each_true true u h = (refl, h)
each_true false u h = let z : ◌≡◌ {A = Bool} false true = h in (z, cc)

-- what holds before a number, and at it
pub each_before : (P : ℕ → Type 0) {j : ℕ} → ((k : ℕ) → k < j → P k) → P j → (k : ℕ) → k < j + 1 → P k
each_before P {j} f p k h = by (dec_lt k j)
  where
    by : Dec (k < j) → P k
    by (yes g) = f k g
    by (no g) = let e : j ≡ k = omega arith in subst P e p
