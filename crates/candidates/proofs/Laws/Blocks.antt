-- A row cut into blocks: all of them are zero exactly if the row is.
use mathlib.Core.Path.{◌≡◌, refl, sym, ap, ◌∙◌, subst}
use mathlib.Core.Bool.{Bool, true, false, ◌&&◌}
use mathlib.Core.List.{List, [], ◌∷◌, ◌++◌}
use Prim.Native.Nat.{ℕ, zero, suc, ◌≤◌, ◌<◌, min}
use native.Mathlib.Omega.{arith}
use lib.Dec.{eqb}
use lib.ListN.{length, take, drop, length-drop}
use Rattle.std.specs.List.{list_all}
use Rattle.std.specs.Slice.Iter.{chunks_rest, chunks_size, chunks_steps}
use Rattle.std.proofs.lemmas.Iterator.{YieldsList}
use Rattle.std.proofs.lemmas.Iterator.Splits.{YieldsList-from_shown_while}
use Rattle.std.proofs.lemmas.List.{take-append-drop}
use Rattle.chars.specs.Base.{pick}
use Rattle.candidates.specs.Rows.{is_zero}

-- blocks of n numbers, k of them at most
unfoldable pub cut : ℕ → ℕ → List ℕ → List (List ℕ)
cut zero n xs = []
cut (suc k) n [] = []
cut (suc k) n (x ∷ xs) = take n (x ∷ xs) ∷ cut k n (drop n (x ∷ xs))

cut_none : (k n : ℕ) → cut k n [] ≡ []
unfolding cut
cut_none zero n = refl
cut_none (suc k) n = refl

-- as many as the row has numbers are enough
cut_enough : (j k n : ℕ) (xs : List ℕ) → 0 < n → length xs ≤ j → length xs ≤ k → cut j n xs ≡ cut k n xs
unfolding cut
cut_enough j k n [] h p q = cut_none j n ∙ sym (cut_none k n)
cut_enough zero k n (x ∷ xs) h p q = absurd (omega (arith, p))
cut_enough (suc j) zero n (x ∷ xs) h p q = absurd (omega (arith, q))
cut_enough (suc j) (suc k) n (x ∷ xs) h p q =
    let d = length-drop n (x ∷ xs) in
    ap (λ (l : List (List ℕ)). take n (x ∷ xs) ∷ l)
    (cut_enough j k n (drop n (x ∷ xs)) h (omega (arith, d, p, h)) (omega (arith, d, q, h)))

-- the first block, and what is behind it
first_block :
    (n : ℕ) (x r : List ℕ) → length x ≡ min n (length (x ++ r)) → (take n (x ++ r) ≡ x) × (drop n (x ++ r) ≡ r)
first_block zero [] r e = (refl, refl)
first_block (suc n) [] [] e = (refl, refl)
first_block (suc n) [] (y ∷ r) e = absurd (omega (arith, e))
first_block zero (a ∷ x) r e = absurd (omega (arith, e))
first_block (suc n) (a ∷ x) r e =
    let w = first_block n x r (omega (arith, e)) in
    (ap (λ (l : List ℕ). a ∷ l) w.0, w.1)

cut_first :
    (n : ℕ) (rs x r : List ℕ) → 0 < n → rs ≡ x ++ r → length x ≡ min n (length rs) → 0 < length rs
    → cut (length rs) n rs ≡ x ∷ cut (length r) n r
unfolding cut
cut_first n [] x r h e m p = absurd (omega (arith, p))
cut_first n (y ∷ ys) x r h e m p =
    let w = first_block n x r (m ∙ ap (λ (l : List ℕ). min n (length l)) e) in
    let front : take n (y ∷ ys) ≡ x = ap (take n) e ∙ w.0 in
    let back : drop n (y ∷ ys) ≡ r = ap (drop n) e ∙ w.1 in
    let d = length-drop n (y ∷ ys) in
    ap (λ (l : List ℕ). l ∷ cut (length ys) n (drop n (y ∷ ys))) front
    ∙ ap (λ (l : List (List ℕ)). x ∷ l)
    (ap (cut (length ys) n) back
    ∙ cut_enough (length ys) (length r) n r h (omega (arith, ap length back, d, h)) (omega arith))

none_left : (xs : List ℕ) → length xs ≡ 0 → xs ≡ []
none_left [] e = refl
none_left (x ∷ xs) e = absurd (omega (arith, e))

pub blocks :
    {s : _} (n : ℕ) (xs : List ℕ) → 0 < n → chunks_size s ≡ n → chunks_rest s ≡ xs
    → YieldsList (chunks_steps {A = ℕ}) (λ x. x.now) s (cut (length xs) n xs)
blocks {s} n xs h e f =
    subst (λ (l : List ℕ). YieldsList chunks_steps (λ x. x.now) s (cut (length l) n l)) f
    (subst (λ (k : ℕ). YieldsList chunks_steps (λ x. x.now) s (cut (length (chunks_rest s)) k (chunks_rest s))) e
    (YieldsList-from_shown_while (chunks_steps {A = ℕ}) (λ x. x.now)
    (λ t. cut (length (chunks_rest t)) (chunks_size t) (chunks_rest t)) (λ t. 0 < chunks_size t)
    (λ t u p w. ap (λ (l : List ℕ). length (cut (length l) (chunks_size t) l)) (none_left (chunks_rest t) w.1.0)
    ∙ ap length (cut_none 0 (chunks_size t)))
    (λ t x u p w. (
      omega (arith, w.0, p),
      let first : chunks_rest t ≡ x.now ++ chunks_rest u = search w in
          let many : length x.now ≡ min (chunks_size t) (length (chunks_rest t)) = search w in
          let some : 0 < length (chunks_rest t) = search w in
          cut_first (chunks_size t) (chunks_rest t) x.now (chunks_rest u) p first many some
          ∙ ap (λ (k : ℕ). x.now ∷ cut (length (chunks_rest u)) k (chunks_rest u)) (sym w.0),
    )) s (omega (arith, e, h))))

-- ---- all zero

picked_and : (b t u v : Bool) → t ≡ (u && v) → pick b t false ≡ (pick b u false && v)
picked_and true t u v e = e
picked_and false t u v e = refl

zero_append : (xs ys : List ℕ) → is_zero (xs ++ ys) ≡ (is_zero xs && is_zero ys)
unfolding is_zero
zero_append [] ys = refl
zero_append (x ∷ xs) ys = picked_and (eqb x 0) _ _ _ (zero_append xs ys)

pub blocks_zero : (k n : ℕ) (xs : List ℕ) → 0 < n → length xs ≤ k → list_all is_zero (cut k n xs) ≡ is_zero xs
unfolding is_zero cut
blocks_zero zero n [] h p = refl
blocks_zero (suc k) n [] h p = refl
blocks_zero zero n (x ∷ xs) h p = absurd (omega (arith, p))
blocks_zero (suc k) n (x ∷ xs) h p =
    ap (λ (b : Bool). is_zero (take n (x ∷ xs)) && b)
    (blocks_zero k n (drop n (x ∷ xs)) h (omega (arith, length-drop n (x ∷ xs), p, h)))
    ∙ sym (zero_append (take n (x ∷ xs)) (drop n (x ∷ xs)))
    ∙ ap is_zero (take-append-drop n (x ∷ xs))
