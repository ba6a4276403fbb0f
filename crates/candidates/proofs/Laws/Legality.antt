-- Characters by their numbers.
use mathlib.Core.Path.{◌≡◌, refl}
use mathlib.Core.Bool.{true, false}
use Prim.Native.Nat.{ℕ, ◌≤◌, ◌<◌}
use lib.Dec.{leb}
use borrow.Author.Tests.{le-leb, lt-leb}
use Rattle.candidates.specs.Entries.{is_scalar}

module _ (c : ℕ) where
  pub scalar_low : c ≤ 55295 → true ≡ is_scalar c
  unfolding is_scalar
  scalar_low h = rw (le-leb c 55295 h) refl

  module _ (h : 55295 < c) where
    pub scalar_gap : c < 57344 → false ≡ is_scalar c
    unfolding is_scalar
    scalar_gap k = rw (lt-leb c 55295 h, lt-leb 57344 c k) refl

    pub scalar_high : 57344 ≤ c → leb c 1114111 ≡ is_scalar c
    unfolding is_scalar
    scalar_high k = rw (lt-leb c 55295 h, le-leb 57344 c k) refl
