-- White space, a byte told by its number and a byte told by a range: the move is the test's answer.
use mathlib.Core.Path.{◌≡◌, refl}
use mathlib.Core.Bool.{Bool, true, false}
use mathlib.Core.List.{[], ◌∷◌}
use Prim.Native.Nat.{ℕ, ◌≤◌, ◌<◌}
use native.Mathlib.Omega.{arith}
use lib.Dec.{eqb}
use borrow.Author.Tests.{eq-eqb, ne_eqb}
use types.Run.{OneOf}
use Rattle.chars.specs.Base.{pick, within}
use Rattle.text.specs.Machine.{pass, bad, go, ws, byte, range, move}
use Rattle.chars.proofs.Laws.Tests.{inside, under, over, among, outside}

module _ (b : ℕ) where
  pub ws_line : 9 ≤ b → b < 11 → move ws b ≡ go (ws ∷ [])
  unfolding move
  ws_line p q = rw (inside 9 10 b p (omega arith))

  pub ws_key : OneOf (13 ∷ 32 ∷ []) b → move ws b ≡ go (ws ∷ [])
  unfolding move
  ws_key h = rw (among (13 ∷ 32 ∷ []) b h) (either (within 9 10 b))
    where
      either : (t : Bool) → pick t (go (ws ∷ [])) (go (ws ∷ [])) ≡ go (ws ∷ [])
      either true = refl
      either false = refl

  pub ws_under : b < 9 → (OneOf (13 ∷ 32 ∷ []) b → ⊥) → move ws b ≡ pass
  unfolding move
  ws_under p h = rw (under 9 10 b p, outside (13 ∷ 32 ∷ []) b h)

  pub ws_over : 10 < b → (OneOf (13 ∷ 32 ∷ []) b → ⊥) → move ws b ≡ pass
  unfolding move
  ws_over p h = rw (over 9 10 b p, outside (13 ∷ 32 ∷ []) b h)

  pub byte_moves : (x : ℕ) → move (byte x) b ≡ pick (eqb b x) (go []) bad
  unfolding move
  byte_moves x = refl

  pub byte_is : (x : ℕ) → b ≡ x → move (byte x) b ≡ go []
  unfolding move
  byte_is x e = rw (eq-eqb b x e)

  pub byte_not : (x : ℕ) → (b ≡ x → ⊥) → move (byte x) b ≡ bad
  unfolding move
  byte_not x e = rw (ne_eqb b x e)

  pub range_is : (lo hi : ℕ) → lo ≤ b → b ≤ hi → move (range lo hi) b ≡ go []
  unfolding move
  range_is lo hi p q = rw (inside lo hi b p q)

  pub range_under : (lo hi : ℕ) → b < lo → move (range lo hi) b ≡ bad
  unfolding move
  range_under lo hi p = rw (under lo hi b p)

  pub range_over : (lo hi : ℕ) → hi < b → move (range lo hi) b ≡ bad
  unfolding move
  range_over lo hi p = rw (over lo hi b p)
