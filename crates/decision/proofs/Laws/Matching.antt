-- The test says what the rules of matching say; and what a match of an entry's first symbol tells.
use mathlib.Core.Path.{◌≡◌, refl}
use mathlib.Core.Bool.{Bool, true, false}
use mathlib.Core.Logic.{◌⊎◌, inl, inr, ⊎_elim}
use mathlib.Core.List.{List, [], ◌∷◌}
use Prim.Native.Nat.{ℕ, zero, suc}
use native.Mathlib.Decide.{ℕ_discrete}
use native.Mathlib.Omega.{arith}
use lib.Dec.{eqb}
use lib.ListN.{drop}
use borrow.Author.Tests.{eqb-true, eq-eqb, ne_eqb}
use Rattle.syntax.specs.Policy.{star, any}
use Rattle.syntax.specs.Forms.{either}
use Rattle.decision.specs.Matching.{Matches, over, nothing, further, single, itself}
use Rattle.decision.specs.Matching.{some_ending, stands, first, matches}
use Rattle.parts.proofs.Laws.Slots.{true_false, both_true}

-- ---- a first symbol

-- what follows a star matches some ending
pub star_inv : {x : ℕ} {e t : List ℕ} → x ≡ star → Matches (x ∷ e) t → (k : ℕ) × Matches e (drop k t)
star_inv s (nothing m) = (0, m)
star_inv s (further m) = let r = star_inv refl m in (suc r.0, r.1)
star_inv s (single m) = absurd (omega arith)
star_inv s (itself n o m) = absurd (n s)

-- a star takes all before an ending that the rest matches
pub star_takes : {e : List ℕ} (k : ℕ) (t : List ℕ) → Matches e (drop k t) → Matches (star ∷ e) t
star_takes zero t m = nothing m
star_takes (suc k) [] m = nothing m
star_takes (suc k) (c ∷ t) m = further (star_takes k t m)

either_inv : (b d : Bool) → either b d ≡ true → (b ≡ true) ⊎ (d ≡ true)
either_inv true d h = inl refl
either_inv false d h = inr h

either_right : (b d : Bool) → d ≡ true → either b d ≡ true
either_right true d h = refl
either_right false d h = h

itself_stands : (c : ℕ) → stands c c ≡ true
itself_stands c = either_right (eqb c any) (eqb c c) (eq-eqb c c refl)

-- a symbol that is no star takes one character for which it stands
pub record Taken (x : ℕ) (e t : List ℕ) : Type 0 where
  pub character : ℕ
  pub rest : List ℕ
  pub is : t ≡ character ∷ rest
  pub stood : stands x character ≡ true
  pub on : Matches e rest

pub one_inv : {x : ℕ} {e t : List ℕ} → (x ≡ star → ⊥) → Matches (x ∷ e) t → Taken x e t
one_inv n (nothing m) = absurd (n refl)
one_inv n (further m) = absurd (n refl)
one_inv n (single {t = t} {c = c} m) = record { character = c; rest = t; is = refl; stood = refl; on = m }
one_inv n (itself {t = t} {c = c} p q m) =
    record { character = c; rest = t; is = refl; stood = itself_stands c; on = m }

pub one_takes : {x c : ℕ} {e t : List ℕ} → (x ≡ star → ⊥) → stands x c ≡ true → Matches e t → Matches (x ∷ e) (c ∷ t)
one_takes {x} {c} {e} {t} n s m = by (ℕ_discrete x any)
  where
    by : Dec (x ≡ any) → Matches (x ∷ e) (c ∷ t)
    by (yes a) = rw a (single m)
    by (no o) = rw (← eqb-true x c (rw (ne_eqb x any o) at s)) (itself n o m)

pub none_inv : {c : ℕ} {t : List ℕ} → Matches [] (c ∷ t) → ⊥
none_inv = elim [ ]

-- ---- the test

ending_here : (f : List ℕ → Bool) (t : List ℕ) → f t ≡ true → some_ending f t ≡ true
unfolding some_ending
ending_here f [] h = h
ending_here f (c ∷ t) h = rw h

pub matches_complete : {e t : List ℕ} → Matches e t → matches e t ≡ true
unfolding matches some_ending first
matches_complete over = refl
matches_complete (nothing {e = e} {t = t} m) = ending_here (matches e) t (matches_complete m)
matches_complete (further {e = e} {t = t} {c = c} m) =
    either_right (matches e (c ∷ t)) (some_ending (matches e) t) (matches_complete m)
matches_complete (single m) = matches_complete m
matches_complete (itself {c = c} n o m) = rw (ne_eqb c star n, itself_stands c) (matches_complete m)

ending_inv : (f : List ℕ → Bool) (t : List ℕ) → some_ending f t ≡ true → (k : ℕ) × (f (drop k t) ≡ true)
unfolding some_ending
ending_inv f [] h = (0, h)
ending_inv f (c ∷ t) h =
    ⊎_elim (λ p. (0, p)) (λ q. let r = ending_inv f t q in (suc r.0, r.1))
    (either_inv (f (c ∷ t)) (some_ending f t) h)

first_inv : (x : ℕ) (e t : List ℕ) → ((u : List ℕ) → matches e u ≡ true → Matches e u) → (x ≡ star → ⊥)
    → first x (matches e) t ≡ true → Matches (x ∷ e) t
unfolding first
first_inv x e [] on n h = absurd (true_false h refl)
first_inv x e (c ∷ t) on n h =
    let p = both_true (stands x c) (matches e t) h in
    one_takes n p.0 (on t p.1)

pub matches_sound : (e t : List ℕ) → matches e t ≡ true → Matches e t
unfolding matches
matches_sound [] [] h = over
matches_sound [] (c ∷ t) h = absurd (true_false h refl)
matches_sound (x ∷ e) t h = by (ℕ_discrete x star) (λ u p. matches_sound e u p)
  where
    by : Dec (x ≡ star) → ((u : List ℕ) → matches e u ≡ true → Matches e u) → Matches (x ∷ e) t
    by (yes s) on =
        let r = ending_inv (matches e) t (rw (eq-eqb x star s) at h) in
        rw s (star_takes r.0 t (on (drop r.0 t) r.1))
    by (no n) on = first_inv x e t on n (rw (ne_eqb x star n) at h)

pub matches_not : (e t : List ℕ) → (Matches e t → ⊥) → matches e t ≡ false
matches_not e t n = by (matches e t) refl
  where
    by : (b : Bool) → matches e t ≡ b → matches e t ≡ false
    by true h = absurd (n (matches_sound e t h))
    by false h = h
