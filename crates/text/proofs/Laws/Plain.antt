-- Bytes that stand for themselves in a string, and white space, as tests without branches tell them.
use mathlib.Core.Path.{◌≡◌, refl, subst}
use mathlib.Core.Bool.{Bool, true, false, ◌||◌}
use mathlib.Core.List.{List, [], ◌∷◌}
use mathlib.Core.Logic.{inl, inr, ◌⊎◌, ⊎_elim}
use types.Run.{OneOf}
use Prim.Native.Nat.{ℕ, ◌+◌, ◌<◌}
use native.Mathlib.Omega.{arith}
use lib.Dec.{eqb, ltb}
use lib.ListN.{length, get_or}
use borrow.Author.Tests.{ltb-true, ltb-false, eqb-true, eqb-false}
use Rattle.chars.proofs.Laws.Tests.{neither}
use Rattle.text.specs.Machine.{pass, go, ws, text, move}
use Rattle.text.specs.Reading.{Leads}
use Rattle.text.proofs.Laws.Reading.{seq, takes}
use Rattle.text.proofs.Laws.Moves.Strings.{text_plain}
use Rattle.text.proofs.Laws.Moves.Bytes.{ws_line, ws_key, ws_under, ws_over}

-- a byte that is not special
pub not_special : (b : ℕ) → (ltb b 32 || ltb 127 b || eqb b 34 || eqb b 92) ≡ false → move text b ≡ go (text ∷ [])
not_special b h =
    let p = neither _ _ h in
    let q = neither _ _ p.0 in
    let r = neither _ _ q.0 in
    text_plain b (eqb-false b 34 q.1) (eqb-false b 92 p.1) (ltb-false b 32 r.0)
    (omega (arith, ltb-false 127 b r.1))

-- one more byte that is not special
pub plain_more :
    {s : List ℕ} {at i : ℕ} → Leads s (text ∷ []) at (text ∷ []) i
    → i < length s → move text (get_or s i 0) ≡ go (text ∷ []) → Leads s (text ∷ []) at (text ∷ []) (i + 1)
plain_more p h e = seq p (takes text [] (text ∷ []) h e)

-- the same place, told otherwise
pub plain_at : {s : List ℕ} {at i j : ℕ} → Leads s (text ∷ []) at (text ∷ []) i → i ≡ j
    → Leads s (text ∷ []) at (text ∷ []) j
plain_at {s} {at} p e = subst (λ (n : ℕ). Leads s (text ∷ []) at (text ∷ []) n) e p

-- ---- white space

pub blank_more :
    {s : List ℕ} {at i : ℕ} → Leads s (ws ∷ []) at (ws ∷ []) i
    → i < length s → move ws (get_or s i 0) ≡ go (ws ∷ []) → Leads s (ws ∷ []) at (ws ∷ []) (i + 1)
blank_more p h e = seq p (takes ws [] (ws ∷ []) h e)

pub blank_at : {s : List ℕ} {at i j : ℕ} → Leads s (ws ∷ []) at (ws ∷ []) i → i ≡ j → Leads s (ws ∷ []) at (ws ∷ []) j
blank_at {s} {at} p e = subst (λ (n : ℕ). Leads s (ws ∷ []) at (ws ∷ []) n) e p

pub only_space : (b : ℕ) → eqb b 32 ≡ true → move ws b ≡ go (ws ∷ [])
only_space b e = ws_key b (inr (eqb-true b 32 e))

one : (t u : Bool) → (t || u) ≡ true → (t ≡ true) ⊎ (u ≡ true)
one true u h = inl refl
one false u h = inr h

tab : (b : ℕ) → eqb b 9 ≡ true → move ws b ≡ go (ws ∷ [])
tab b e = ws_line b (omega (arith, eqb-true b 9 e)) (omega (arith, eqb-true b 9 e))

line_feed : (b : ℕ) → eqb b 10 ≡ true → move ws b ≡ go (ws ∷ [])
line_feed b e = ws_line b (omega (arith, eqb-true b 10 e)) (omega (arith, eqb-true b 10 e))

-- one of the four bytes, or none
pub blank_is : (b : ℕ) → (eqb b 9 || eqb b 10 || eqb b 13 || eqb b 32) ≡ true → move ws b ≡ go (ws ∷ [])
blank_is b h =
    ⊎_elim
    (λ p. ⊎_elim
    (λ q. ⊎_elim (tab b) (line_feed b) (one _ _ q))
    (λ q. ws_key b (inl (eqb-true b 13 q)))
    (one _ _ p))
    (only_space b)
    (one _ _ h)

pub blank_not : (b : ℕ) → (eqb b 9 || eqb b 10 || eqb b 13 || eqb b 32) ≡ false → move ws b ≡ pass
blank_not b h = by (ltb b 9) refl
  where
    p : (eqb b 9 || eqb b 10 || eqb b 13) ≡ false × (eqb b 32 ≡ false)
    p = neither _ _ h

    q : (eqb b 9 || eqb b 10) ≡ false × (eqb b 13 ≡ false)
    q = neither _ _ p.0

    r : (eqb b 9 ≡ false) × (eqb b 10 ≡ false)
    r = neither _ _ q.0

    others : OneOf (13 ∷ 32 ∷ []) b → ⊥
    others o = ⊎_elim (eqb-false b 13 q.1) (eqb-false b 32 p.1) o

    by : (t : Bool) → ltb b 9 ≡ t → move ws b ≡ pass
    by true e = ws_under b (ltb-true b 9 e) others
    by false e = ws_over b (omega (arith, ltb-false b 9 e, eqb-false b 9 r.0, eqb-false b 10 r.1)) others
