-- What entries match, by their wildcards: without one, one text; with a final star alone, what begins with the text
-- before it; with any, two texts at least.
use mathlib.Core.Path.{◌≡◌, refl, sym, ap, ◌∙◌}
use mathlib.Core.Bool.{Bool, true, false}
use mathlib.Core.List.{List, [], ◌∷◌, ◌++◌}
use Prim.Native.Nat.{ℕ, suc, ◌-◌, ◌<◌}
use native.Mathlib.Omega.{arith}
use native.Mathlib.Decide.{ℕ_discrete}
use lib.Dec.{eqb}
use lib.ListN.{length, take}
use lib.Seq.{take-suc, take_all}
use borrow.Author.Tests.{eq-eqb, ne_eqb}
use Rattle.chars.specs.Base.{pick}
use Rattle.syntax.specs.Policy.{star, any}
use Rattle.syntax.specs.Forms.{both, either, same}
use Rattle.syntax.proofs.Laws.Same.{same_sound}
use Rattle.decision.specs.Matching.{Matches, over, nothing, further, single, itself, some_ending, first, matches}
use Rattle.decision.proofs.Laws.Matching.{matches_complete}
use Rattle.candidates.specs.Beginnings.{begins}
use Rattle.candidates.specs.Entries.{wildcards, last_of, before}

-- ---- one symbol

pub record Plain (y : ℕ) (ys : List ℕ) : Type 0 where
  pub no_star : y ≡ star → ⊥
  pub no_any : y ≡ any → ⊥
  pub rest : wildcards ys ≡ 0

pub plain_inv : (y : ℕ) (ys : List ℕ) → wildcards (y ∷ ys) ≡ 0 → Plain y ys
unfolding wildcards
plain_inv y ys e = by (ℕ_discrete y star) (ℕ_discrete y any)
  where
    by : Dec (y ≡ star) → Dec (y ≡ any) → Plain y ys
    by (yes p) d = absurd (let z = rw (eq-eqb y star p) at e in omega arith)
    by (no n) (yes p) = absurd (let z = rw (ne_eqb y star n, eq-eqb y any p) at e in omega arith)
    by (no n) (no o) = record { no_star = n; no_any = o; rest = rw (ne_eqb y star n, ne_eqb y any o) at e }

pub plain_cons : {y : ℕ} {ys : List ℕ} → Plain y ys → wildcards (y ∷ ys) ≡ 0
unfolding wildcards
plain_cons {y} {ys} p = rw (ne_eqb y star p.no_star, ne_eqb y any p.no_any) p.rest

module _ {y : ℕ} {ys : List ℕ} (p : Plain y ys) where
  none_left : (e : List ℕ) → matches (y ∷ e) [] ≡ false
  unfolding matches first
  none_left e = rw (ne_eqb y star p.no_star)

  one_more : (e : List ℕ) (c : ℕ) (t : List ℕ) → matches (y ∷ e) (c ∷ t) ≡ both (eqb y c) (matches e t)
  unfolding matches first
  one_more e c t = rw (ne_eqb y star p.no_star, ne_eqb y any p.no_any)

-- ---- without wildcards, and with a final star

pub plain_matches : (ys t : List ℕ) → wildcards ys ≡ 0 → matches ys t ≡ same ys t
unfolding matches same
plain_matches [] [] e = refl
plain_matches [] (c ∷ t) e = refl
plain_matches (y ∷ ys) [] e = none_left (plain_inv y ys e) ys
plain_matches (y ∷ ys) (c ∷ t) e =
    let p = plain_inv y ys e in
    one_more p ys c t ∙ ap (both (eqb y c)) (plain_matches ys t p.rest)

ends : (f : List ℕ → Bool) (t : List ℕ) → f [] ≡ true → some_ending f t ≡ true
unfolding some_ending
ends f [] e = e
ends f (c ∷ t) e = rw (ends f t e) (always (f (c ∷ t)))
  where
    always : (b : Bool) → either b true ≡ true
    always true = refl
    always false = refl

pub star_matches : (q t : List ℕ) → wildcards q ≡ 0 → matches (q ++ (star ∷ [])) t ≡ begins q t
unfolding matches begins
star_matches [] t e = ends (matches []) t refl
star_matches (y ∷ q) [] e = none_left (plain_inv y q e) (q ++ (star ∷ []))
star_matches (y ∷ q) (c ∷ t) e =
    let p = plain_inv y q e in
    one_more p (q ++ (star ∷ [])) c t ∙ ap (both (eqb y c)) (star_matches q t p.rest)

star_more : (q : List ℕ) → wildcards (q ++ (star ∷ [])) ≡ suc (wildcards q)
unfolding wildcards
star_more [] = refl
star_more (y ∷ q) = rw (star_more q) (by (either (eqb y star) (eqb y any)))
  where
    by : (b : Bool)
        → pick b (suc (suc (wildcards q))) (suc (wildcards q)) ≡ suc (pick b (suc (wildcards q)) (wildcards q))
    by true = refl
    by false = refl

-- the one wildcard is the last symbol
pub record Final (ys : List ℕ) : Type 0 where
  pub is : ys ≡ before ys ++ (star ∷ [])
  pub plain : wildcards (before ys) ≡ 0

some : (ys : List ℕ) → wildcards ys ≡ 1 → 0 < length ys
unfolding wildcards
some [] e = absurd (omega arith)
some (y ∷ ys) e = omega arith

pub final_is : (ys : List ℕ) → wildcards ys ≡ 1 → last_of ys ≡ star → Final ys
final_is ys w l = record { is = i; plain = p }
  where
    long : length ys ≡ suc (length ys - 1)
    long = let h = some ys w in omega arith

    i : ys ≡ before ys ++ (star ∷ [])
    i =
        sym (take_all (length ys) ys (omega arith)) ∙ ap (λ (n : ℕ). take n ys) long
        ∙ take-suc ys (length ys - 1) 0 (let h = some ys w in omega arith) ∙ ap (λ (y : ℕ). before ys ++ (y ∷ [])) l

    p : wildcards (before ys) ≡ 0
    p = let z = sym (star_more (before ys)) ∙ sym (ap wildcards i) ∙ w in omega arith

-- ---- with any

-- the entry with c in place of its wildcards
unfoldable filled : ℕ → List ℕ → List ℕ
filled c [] = []
filled c (y ∷ ys) = pick (either (eqb y star) (eqb y any)) c y ∷ filled c ys

filled_matches : (c : ℕ) (ys : List ℕ) → Matches ys (filled c ys)
unfolding filled
filled_matches c [] = over
filled_matches c (y ∷ ys) = by (ℕ_discrete y star) (ℕ_discrete y any) (filled_matches c ys)
  where
    by : Dec (y ≡ star) → Dec (y ≡ any) → Matches ys (filled c ys)
        → Matches (y ∷ ys) (pick (either (eqb y star) (eqb y any)) c y ∷ filled c ys)
    by (yes p) d m = rw p (further (nothing m))
    by (no n) (yes p) m = rw p (single m)
    by (no n) (no o) m = rw (ne_eqb y star n, ne_eqb y any o) (itself n o m)

filled_differ : (ys : List ℕ) → (wildcards ys ≡ 0 → ⊥) → filled 0 ys ≡ filled 1 ys → ⊥
unfolding filled wildcards
filled_differ [] n e = n refl
filled_differ (y ∷ ys) n e = by (either (eqb y star) (eqb y any)) n e (filled_differ ys)
  where
    by : (b : Bool) → (pick b (suc (wildcards ys)) (wildcards ys) ≡ 0 → ⊥)
        → ◌≡◌ {A = List ℕ} (pick b 0 y ∷ filled 0 ys) (pick b 1 y ∷ filled 1 ys)
        → ((wildcards ys ≡ 0 → ⊥) → filled 0 ys ≡ filled 1 ys → ⊥) → ⊥
    by true n e on = let z : ◌≡◌ {A = ℕ} 0 1 = cc in omega arith
    by false n e on = on n (cc)

-- and so one that is not a given text
pub several : (ys s : List ℕ) → (wildcards ys ≡ 0 → ⊥) → (t : List ℕ) × (matches ys t ≡ true) × (same s t ≡ false)
several ys s n = by (same s (filled 0 ys)) (same s (filled 1 ys)) refl refl
  where
    by : (a b : Bool) → same s (filled 0 ys) ≡ a → same s (filled 1 ys) ≡ b
        → (t : List ℕ) × (matches ys t ≡ true) × (same s t ≡ false)
    by true true p q =
        absurd (filled_differ ys n (sym (same_sound s (filled 0 ys) p) ∙ same_sound s (filled 1 ys) q))
    by true false p q = (filled 1 ys, matches_complete (filled_matches 1 ys), q)
    by false b p q = (filled 0 ys, matches_complete (filled_matches 0 ys), p)
