-- Beginnings of texts: t begins with q if it is q and a rest, so that laws of `++` give the order; the shared beginning
-- is the longest of two texts, and `longest` the longest of one that passes a test.
use mathlib.Core.Path.{◌≡◌, refl, sym, ap, ◌∙◌, subst}
use mathlib.Core.Bool.{Bool, true, false}
use mathlib.Core.List.{List, [], ◌∷◌, ◌++◌, append-nil, append_assoc}
use Prim.Native.Nat.{ℕ, zero, suc, ◌+◌, ◌-◌, ◌≤◌}
use native.Mathlib.Omega.{arith}
use native.Mathlib.Decide.{ℕ_discrete}
use lib.Dec.{eqb}
use lib.ListN.{length, take, drop, length-append, take-append-drop}
use lib.Seq.{take-append_seam, take-append-add}
use borrow.Author.Tests.{eqb-true, eq-eqb}
use Rattle.syntax.specs.Forms.{both}
use Rattle.parts.proofs.Laws.Slots.{true_false, both_true}
use Rattle.candidates.specs.Candidates.{Candidate, itself, under}
use Rattle.candidates.specs.Beginnings.{begins, shared, longest_up_to, longest}
use Rattle.candidates.proofs.Laws.Bounds.{pick_case}

pub both_is : {t u : Bool} → t ≡ true → u ≡ true → both t u ≡ true
both_is p q = rw (p, q)

-- ---- a beginning and its rest

pub record Begun (q t : List ℕ) : Type 0 where
  pub rest : List ℕ
  pub is : t ≡ q ++ rest

pub begins_more : (q r : List ℕ) → begins q (q ++ r) ≡ true
unfolding begins
begins_more [] r = refl
begins_more (x ∷ q) r = both_is (eq-eqb x x refl) (begins_more q r)

pub begins_complete : {q t : List ℕ} → Begun q t → begins q t ≡ true
begins_complete {q} {t} b = ap (begins q) b.is ∙ begins_more q b.rest

pub begins_sound : (q t : List ℕ) → begins q t ≡ true → Begun q t
unfolding begins
begins_sound [] t h = record { rest = t; is = refl }
begins_sound (x ∷ q) [] h = absurd (true_false h refl)
begins_sound (x ∷ q) (c ∷ t) h =
    let p = both_true (eqb x c) (begins q t) h in
    let b = begins_sound q t p.1 in
    let e = b.is in
    let f = eqb-true x c p.0 in
    record { rest = b.rest; is = cc }

begun_length : {q t : List ℕ} (b : Begun q t) → length t ≡ length q + length b.rest
begun_length {q} b = ap length b.is ∙ length-append q b.rest

-- ---- an order

pub begins_refl : (t : List ℕ) → begins t t ≡ true
begins_refl t = begins_complete (record { rest = []; is = sym (append-nil t) })

pub begins_trans : (q s t : List ℕ) → begins q s ≡ true → begins s t ≡ true → begins q t ≡ true
begins_trans q s t h k =
    let a = begins_sound q s h in
    let b = begins_sound s t k in
    begins_complete
    (record {
      rest = a.rest ++ b.rest;
      is = b.is ∙ ap (λ (u : List ℕ). u ++ b.rest) a.is ∙ append_assoc q a.rest b.rest;
    })

pub begins_length : (q t : List ℕ) → begins q t ≡ true → length q ≤ length t
begins_length q t h = let l = begun_length (begins_sound q t h) in omega arith

nothing_left : (q r : List ℕ) → length r ≡ 0 → q ++ r ≡ q
nothing_left q [] e = append-nil q
nothing_left q (x ∷ r) e = absurd (omega arith)

pub begins_antisym : (q t : List ℕ) → begins q t ≡ true → begins t q ≡ true → q ≡ t
begins_antisym q t h k =
    let a = begins_sound q t h in
    let l = begun_length a in
    let m = begins_length t q k in
    sym (a.is ∙ nothing_left q a.rest (omega arith))

-- ---- the first characters

take_begins : (n : ℕ) (t : List ℕ) → begins (take n t) t ≡ true
take_begins n t = begins_complete (record { rest = drop n t; is = sym (take-append-drop n t) })

begins_take : (n : ℕ) (q t : List ℕ) → length q ≤ n → begins q t ≡ true → begins q (take n t) ≡ true
begins_take n q t l h =
    let b = begins_sound q t h in
    let e : n ≡ length q + (n - length q) = omega arith in
    begins_complete
    (record {
      rest = take (n - length q) b.rest;
      is =
          ap (λ (k : ℕ). take k t) e ∙ ap (take (length q + (n - length q))) b.is
          ∙ take-append-add q b.rest (n - length q);
    })

take_is : (q t : List ℕ) (n : ℕ) → length q ≡ n → begins q t ≡ true → take n t ≡ q
take_is q t n l h =
    let b = begins_sound q t h in
    ap (λ (k : ℕ). take k t) (sym l) ∙ ap (take (length q)) b.is ∙ take-append_seam q b.rest

-- ---- shared

-- of both texts, and the longest such
record Sharing (q s t : List ℕ) : Type 0 where
  left : begins q s ≡ true
  right : begins q t ≡ true
  most : (p : List ℕ) → begins p s ≡ true → begins p t ≡ true → begins p q ≡ true

sharing_none : (s t : List ℕ) → ((p : List ℕ) → begins p s ≡ true → begins p t ≡ true → p ≡ []) → Sharing [] s t
unfolding begins
sharing_none s t n =
    record { left = refl; right = refl; most = λ p h k. ap (λ (q : List ℕ). begins q []) (n p h k) }

-- a text that has no first character, or another one, begins with nothing else
apart : (x : ℕ) (s t : List ℕ) → ((p : List ℕ) (y : ℕ) → begins (y ∷ p) t ≡ true → x ≡ y → ⊥) → (p : List ℕ)
    → begins p (x ∷ s) ≡ true → begins p t ≡ true → p ≡ []
unfolding begins
apart x s t n [] h k = refl
apart x s t n (y ∷ p) h k = absurd (n p y k (sym (eqb-true y x (both_true (eqb y x) (begins p s) h).0)))

sharing_more : (x : ℕ) {q s t : List ℕ} → Sharing q s t → Sharing (x ∷ q) (x ∷ s) (x ∷ t)
unfolding begins
sharing_more x {q} {s} {t} h =
    record {
      left = both_is (eq-eqb x x refl) h.left;
      right = both_is (eq-eqb x x refl) h.right;
      most = most;
    }
  where
    most : (p : List ℕ) → begins p (x ∷ s) ≡ true → begins p (x ∷ t) ≡ true → begins p (x ∷ q) ≡ true
    most [] a b = refl
    most (y ∷ p) a b =
        let u = both_true (eqb y x) (begins p s) a in
        let v = both_true (eqb y x) (begins p t) b in
        both_is u.0 (h.most p u.1 v.1)

sharing : (s t : List ℕ) → Sharing (shared s t) s t
unfolding shared begins
sharing [] t = record { left = refl; right = refl; most = λ p h k. h }
sharing (x ∷ s) [] = record { left = refl; right = refl; most = λ p h k. k }
sharing (x ∷ s) (c ∷ t) =
    pick_case (λ (q : List ℕ). Sharing q (x ∷ s) (c ∷ t)) (eqb x c) (x ∷ shared s t) []
    (λ e. subst (λ (y : ℕ). Sharing (x ∷ shared s t) (x ∷ s) (y ∷ t)) (eqb-true x c e) (sharing_more x (sharing s t)))
    (λ e. sharing_none (x ∷ s) (c ∷ t) (apart x s (c ∷ t) (other e)))
  where
    other : eqb x c ≡ false → (p : List ℕ) (y : ℕ) → begins (y ∷ p) (c ∷ t) ≡ true → x ≡ y → ⊥
    other e p y h i =
        true_false (eq-eqb x c (i ∙ eqb-true y c (both_true (eqb y c) (begins p t) h).0)) e

pub shared_left : (s t : List ℕ) → begins (shared s t) s ≡ true
shared_left s t = (sharing s t).left

pub shared_right : (s t : List ℕ) → begins (shared s t) t ≡ true
shared_right s t = (sharing s t).right

pub shared_longest : (q s t : List ℕ) → begins q s ≡ true → begins q t ≡ true → begins q (shared s t) ≡ true
shared_longest q s t h k = (sharing s t).most q h k

-- ---- the longest that passes

module _ (wide : List ℕ → Bool) (t : List ℕ) where
  -- what it is: a beginning of t that passes, or the entry where no beginning passes
  pub data Longest (n : ℕ) : Candidate → Type 0 where
    found : {q : List ℕ} → wide q ≡ true → begins q t ≡ true
        → ((p : List ℕ) → wide p ≡ true → begins p t ≡ true → length p ≤ n → begins p q ≡ true) → Longest n (under q)
    none : ((p : List ℕ) → wide p ≡ true → begins p t ≡ true → length p ≤ n → ⊥) → Longest n itself

  module _ (n : ℕ) (f : wide (take (suc n) t) ≡ false) where
    shorter : (p : List ℕ) → wide p ≡ true → begins p t ≡ true → length p ≤ suc n → length p ≤ n
    shorter p w b l = by (ℕ_discrete (length p) (suc n))
      where
        by : Dec (length p ≡ suc n) → length p ≤ n
        by (yes e) = absurd (true_false w (subst (λ (x : List ℕ). wide x ≡ false) (take_is p t (suc n) e b) f))
        by (no d) = omega arith

    fewer : {c : Candidate} → Longest n c → Longest (suc n) c
    fewer (found w b m) = found w b (λ p v a l. m p v a (shorter p v a l))
    fewer (none m) = none (λ p v a l. m p v a (shorter p v a l))

  module _ (e : wide [] ≡ false) where
    pub longest_up_to_lem : (n : ℕ) → Longest n (longest_up_to wide n t)
    unfolding longest_up_to
    longest_up_to_lem zero = none (λ p w b l. nil p w l)
      where
        nil : (p : List ℕ) → wide p ≡ true → length p ≤ 0 → ⊥
        nil [] w l = true_false w e
        nil (x ∷ p) w l = omega arith
    longest_up_to_lem (suc n) =
        pick_case (Longest (suc n)) (wide (take (suc n) t)) (under (take (suc n) t)) (longest_up_to wide n t)
        (λ w. found w (take_begins (suc n) t) (λ p v b l. begins_take (suc n) p t l b))
        (λ f. fewer n f (longest_up_to_lem n))

    pub longest_is : Longest (length t) (longest wide t)
    longest_is = longest_up_to_lem (length t)
