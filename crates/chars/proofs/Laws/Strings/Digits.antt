-- The tests of Decoding on one byte, for ranges, digits and letters: each picks one row of its definition.
use mathlib.Core.Path.{◌≡◌, refl}
use mathlib.Core.Bool.{Bool, true, false}
use mathlib.Core.List.{List}
use Prim.Native.Nat.{ℕ, ◌+◌, ◌-◌, ◌<◌}
use native.Mathlib.Omega.{arith}
use lib.Dec.{leb}
use lib.ListN.{drop}
use lib.Seq.{get_or-drop}
use borrow.Author.Tests.{leb-true}
use Rattle.chars.specs.Base.{pick, In, within}
use Rattle.chars.specs.Decoding.{hex_of, code_at}
use Rattle.chars.proofs.Laws.Tests.{inside}
use Rattle.chars.proofs.Laws.Tests as T

-- ---- from lo to hi

pub data Outside (lo hi b : ℕ) : Type 0 where
  under : b < lo → Outside lo hi b
  over : hi < b → Outside lo hi b

pub within_inside : {lo hi b : ℕ} → In lo hi b → within lo hi b ≡ true
within_inside {lo} {hi} {b} p = inside lo hi b p.low p.high

pub within_outside : {lo hi b : ℕ} → Outside lo hi b → within lo hi b ≡ false
within_outside {lo} {hi} {b} (under p) = T.under lo hi b p
within_outside {lo} {hi} {b} (over p) = T.over lo hi b p

pub within_inv : (lo hi b : ℕ) → within lo hi b ≡ true → In lo hi b
within_inv lo hi b e =
    let p = both (leb lo b) (leb b hi) e in record { low = leb-true lo b p.0; high = leb-true b hi p.1 }
  where
    both : (s t : Bool) → pick s t false ≡ true → (s ≡ true) × (t ≡ true)
    both true t e = (refl, e)
    both false t e = (e, cc)

-- ---- digits and letters

module _ {b : ℕ} where
  pub hex_digit_lem : In 48 57 b → hex_of b ≡ b - 48
  unfolding hex_of
  hex_digit_lem p = rw (within_inside p)

  pub hex_upper : In 65 70 b → hex_of b ≡ b - 65 + 10
  unfolding hex_of
  hex_upper p = rw (within_outside {lo = 48} {hi = 57} {b = b} (over (omega (arith, p.low))), within_inside p)

  pub hex_lower : In 97 102 b → hex_of b ≡ b - 97 + 10
  unfolding hex_of
  hex_lower p =
      rw (
        within_outside {lo = 48} {hi = 57} {b = b} (over (omega (arith, p.low))),
        within_outside {lo = 65} {hi = 70} {b = b} (over (omega (arith, p.low))),
        within_inside p,
      )

abbrev Small : ℕ → Type 0
Small n = n < 16

small_pick : (t : Bool) {x y : ℕ} → (t ≡ true → Small x) → Small y → Small (pick t x y)
small_pick true p q = p refl
small_pick false p q = q

pub hex_small : (b : ℕ) → hex_of b < 16
unfolding hex_of
hex_small b =
    small_pick (within 48 57 b) (λ e. omega (arith, (within_inv 48 57 b e).high))
    (small_pick (within 65 70 b) (λ e. omega (arith, (within_inv 65 70 b e).high))
    (small_pick (within 97 102 b) (λ e. omega (arith, (within_inv 97 102 b e).high)) (omega arith)))

-- the second escape of two
pub code_drop : (w : List ℕ) → code_at w 8 ≡ code_at (drop 6 w) 2
unfolding code_at
code_drop w = rw (get_or-drop 6 w 2 0, get_or-drop 6 w 3 0, get_or-drop 6 w 4 0, get_or-drop 6 w 5 0)
