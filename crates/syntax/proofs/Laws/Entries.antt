-- What a caller of `symbols` may take from its answer.
--   symbols_length    an entry has no more symbols than the characters that say them
--   converted_count   the answer's first numbers of the run are the symbols
--   converted_none    where the answer is None, an escape is wrong and the run is as it was
use mathlib.Core.Path.{◌≡◌, refl, ap, sym, ◌∙◌}
use mathlib.Core.Bool.{Bool, true, false}
use mathlib.Core.List.{List, [], ◌∷◌}
use Prim.Native.Nat.{ℕ, zero, suc, ◌≤◌}
use native.Mathlib.Omega.{arith}
use lib.Dec.{eqb}
use lib.ListN.{length, get_or, take}
use Rattle.chars.specs.Base.{pick, one_of}
use Rattle.chars.specs.Putting.{lay}
use Rattle.chars.proofs.Laws.Putting.{lay_length}
use Rattle.std.specs.Prelude.{Option, Some, None}
use Rattle.syntax.specs.Forms.{Reading, wrong, read, both, ahead, symbol, symbols_behind, symbols_of}
use Rattle.syntax.specs.Told.{converted}

ahead_length : (c n : ℕ) (t : Reading (List ℕ)) → ((ys : List ℕ) → t ≡ read ys → length ys ≤ n)
    → (ys : List ℕ) → ahead c t ≡ read ys → length ys ≤ suc n
unfolding ahead
ahead_length c n wrong f ys e = absurd (let z : ◌≡◌ {A = ℕ} 0 1 = cc in omega arith)
ahead_length c n (read zs) f ys e =
    let same : c ∷ zs ≡ ys = cc in omega (arith, f zs refl, sym (ap length same))

step_length : (n : ℕ) (t u : Bool) (x y : ℕ) (a b : Reading (List ℕ))
    → ((ys : List ℕ) → a ≡ read ys → length ys ≤ n) → ((ys : List ℕ) → b ≡ read ys → length ys ≤ n)
    → (ys : List ℕ) → pick t (pick u (ahead x a) wrong) (ahead y b) ≡ read ys → length ys ≤ suc n
step_length n true true x y a b f g ys e = ahead_length x n a f ys e
step_length n true false x y a b f g ys e = absurd (let z : ◌≡◌ {A = ℕ} 0 1 = cc in omega arith)
step_length n false u x y a b f g ys e = ahead_length y n b g ys e

behind_length : (n : ℕ) (w : Bool) (cs ys : List ℕ) → symbols_behind n w cs ≡ read ys → length ys ≤ length cs
unfolding symbols_behind
behind_length n w [] ys e = let same : [] ≡ ys = cc in omega (arith, sym (ap length same))
behind_length (suc n) w (c ∷ cs) ys e = omega (arith, behind_length n w cs ys e)
behind_length zero w (c ∷ cs) ys e =
    step_length (length cs) (both (eqb c 36) (eqb (get_or cs 0 0) 123))
    (both (one_of (36 ∷ 42 ∷ 63 ∷ []) (get_or cs 1 0)) (eqb (get_or cs 2 0) 125)) (get_or cs 1 0) (symbol w c)
    (symbols_behind 3 w cs) (symbols_behind 0 w cs) (behind_length 3 w cs) (behind_length 0 w cs) ys e

pub symbols_length : (w : Bool) (cs ys : List ℕ) → symbols_of w cs ≡ read ys → length ys ≤ length cs
symbols_length w cs ys e = behind_length 0 w cs ys e

lay_take : (ys out : List ℕ) → length ys ≤ length out → take (length ys) (lay ys out) ≡ ys
unfolding lay
lay_take [] out h = refl
lay_take (y ∷ ys) [] h = absurd (omega arith)
lay_take (y ∷ ys) (o ∷ out) h = ap (λ (l : List ℕ). y ∷ l) (lay_take ys out (omega arith))

count_wrong : {r : Option ℕ} {n : ℕ} → r ≡ Some n → r ≡ None → ⊥
count_wrong p q = let z : ◌≡◌ {A = ℕ} 0 1 = cc in omega arith

module _ (w : Bool) (run after : List ℕ) (r : Option ℕ) (told : (r, after) ≡ converted (symbols_of w run) run) where
  pub converted_count : {n : ℕ} → r ≡ Some n → symbols_of w run ≡ read (take n after)
  converted_count {n} k = by (symbols_of w run) refl told
    where
      by : (t : Reading (List ℕ)) → symbols_of w run ≡ t → (r, after) ≡ converted t run
          → symbols_of w run ≡ read (take n after)
      by wrong e q = absurd (count_wrong k (ap (λ (p : Option ℕ × List ℕ). p.0) q))
      by (read ys) e q =
          let count : Some n ≡ Some (length ys) = sym k ∙ ap (λ (p : Option ℕ × List ℕ). p.0) q in
          let many : n ≡ length ys = cc in
          let laid : after ≡ lay ys run = ap (λ (p : Option ℕ × List ℕ). p.1) q in
          let taken : take n after ≡ ys =
          ap (λ (m : ℕ). take m after) many ∙ ap (take (length ys)) laid
          ∙ lay_take ys run (symbols_length w run ys e) in
          e ∙ ap read (sym taken)

  pub converted_none : r ≡ None → (symbols_of w run ≡ wrong) × (after ≡ run)
  converted_none k = by (symbols_of w run) refl told
    where
      by : (t : Reading (List ℕ)) → symbols_of w run ≡ t → (r, after) ≡ converted t run
          → (symbols_of w run ≡ wrong) × (after ≡ run)
      by wrong e q = (e, ap (λ (p : Option ℕ × List ℕ). p.1) q)
      by (read ys) e q = absurd (count_wrong (ap (λ (p : Option ℕ × List ℕ). p.0) q) k)

  pub converted_length : length after ≡ length run
  converted_length = by (symbols_of w run) told
    where
      by : (t : Reading (List ℕ)) → (r, after) ≡ converted t run → length after ≡ length run
      by wrong q = ap (λ (p : Option ℕ × List ℕ). length p.1) q
      by (read ys) q = ap (λ (p : Option ℕ × List ℕ). length p.1) q ∙ lay_length ys run
