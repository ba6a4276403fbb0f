-- Operators that were seen, by a mark for each: one of which no mark is set is new.
use mathlib.Core.Path.{◌≡◌, refl, sym, ap, ◌∙◌}
use mathlib.Core.Bool.{Bool, true, false}
use mathlib.Core.List.{List, [], ◌∷◌, ◌++◌}
use Prim.Native.Nat.{ℕ, ◌<◌}
use native.Mathlib.Omega.{arith}
use native.Mathlib.Decide.{ℕ_discrete}
use lib.ListN.{length, get_or, set, replicate, length-set}
use lib.Seq.{get_or-set_same, get_or-set_other}
use Rattle.syntax.specs.Policy.{Operator, StringEquals, StringLike, NumericLessThanEquals}
use Rattle.syntax.specs.Forms.{either}
use Rattle.syntax.specs.Members.{has_like}
use Rattle.syntax.specs.PolicyLayout.{same_operator, Group, same_group}
use Rattle.held.specs.Held.{operator_number}

pub like_snoc : {A : Type 0} (f : A → A → Bool) (x y : A) (xs : List A)
    → has_like f x (xs ++ (y ∷ [])) ≡ either (has_like f x xs) (f x y)
unfolding has_like
like_snoc f x y [] = by (f x y)
  where
    by : (t : Bool) → either t false ≡ t
    by true = refl
    by false = refl
like_snoc f x y (z ∷ xs) = ap (either (f x z)) (like_snoc f x y xs) ∙ by (f x z) (has_like f x xs) (f x y)
  where
    by : (t u v : Bool) → either t (either u v) ≡ either (either t u) v
    by true u v = refl
    by false u v = refl

same_number_lem : (a b : Operator) → operator_number a ≡ operator_number b → same_operator a b ≡ true
same_number_lem StringEquals StringEquals e = refl
same_number_lem StringEquals StringLike e = absurd (omega arith)
same_number_lem StringEquals NumericLessThanEquals e = absurd (omega arith)
same_number_lem StringLike StringEquals e = absurd (omega arith)
same_number_lem StringLike StringLike e = refl
same_number_lem StringLike NumericLessThanEquals e = absurd (omega arith)
same_number_lem NumericLessThanEquals StringEquals e = absurd (omega arith)
same_number_lem NumericLessThanEquals StringLike e = absurd (omega arith)
same_number_lem NumericLessThanEquals NumericLessThanEquals e = refl

other_number : (a b : Operator) → (operator_number a ≡ operator_number b → ⊥) → same_operator a b ≡ false
other_number StringEquals StringEquals e = absurd (e refl)
other_number StringEquals StringLike e = refl
other_number StringEquals NumericLessThanEquals e = refl
other_number StringLike StringEquals e = refl
other_number StringLike StringLike e = absurd (e refl)
other_number StringLike NumericLessThanEquals e = refl
other_number NumericLessThanEquals StringEquals e = refl
other_number NumericLessThanEquals StringLike e = refl
other_number NumericLessThanEquals NumericLessThanEquals e = absurd (e refl)

pub number_small : (o : Operator) → operator_number o < 4
number_small StringEquals = omega arith
number_small StringLike = omega arith
number_small NumericLessThanEquals = omega arith

-- a mark for each operator: not set where no group has it
pub record Seen (marks : List Bool) (gs : List Group) : Type 0 where
  pub size : length marks ≡ 4
  pub clear : (g : Group) → get_or marks (operator_number g.operator) false ≡ false → has_like same_group g gs ≡ false
  pub marked : (g : Group) → get_or marks (operator_number g.operator) false ≡ true → has_like same_group g gs ≡ true

unmarked : (o : Operator) → get_or (replicate 4 false) (operator_number o) false ≡ false
unmarked StringEquals = refl
unmarked StringLike = refl
unmarked NumericLessThanEquals = refl

pub seen_none : Seen (replicate 4 false) []
unfolding has_like
seen_none = record { size = refl; clear = λ g e. refl; marked = λ g e. let no = unmarked g.operator in cc }

either_false : (t : Bool) → either t false ≡ t
either_false true = refl
either_false false = refl

either_true : (t : Bool) → either t true ≡ true
either_true true = refl
either_true false = refl

pub seen_more : {marks : List Bool} {gs : List Group} (f : Group) (k : ℕ) → k ≡ operator_number f.operator
    → Seen marks gs → Seen (set marks k true) (gs ++ (f ∷ []))
seen_more {marks} {gs} f k e s =
    record {
      size = length-set marks k true ∙ s.size;
      clear = λ g z. clear g z (ℕ_discrete (operator_number g.operator) k);
      marked = λ g z. marked g z (ℕ_discrete (operator_number g.operator) k);
    }
  where
    low : k < length marks
    low = omega (arith, e, number_small f.operator, s.size)

    one : (g : Group) → operator_number g.operator ≡ k → get_or (set marks k true) (operator_number g.operator) false ≡ true
    one g q = ap (λ (i : ℕ). get_or (set marks k true) i false) q ∙ get_or-set_same marks k true false low

    clear : (g : Group) → get_or (set marks k true) (operator_number g.operator) false ≡ false
        → Dec (operator_number g.operator ≡ k) → has_like same_group g (gs ++ (f ∷ [])) ≡ false
    clear g z (yes q) = let set_here = one g q in cc
    clear g z (no q) =
        like_snoc same_group g f gs
        ∙ ap (either (has_like same_group g gs)) (other_number g.operator f.operator (λ i. q (i ∙ sym e)))
        ∙ either_false (has_like same_group g gs)
        ∙ s.clear g (sym (get_or-set_other marks k (operator_number g.operator) true false q) ∙ z)

    marked : (g : Group) → get_or (set marks k true) (operator_number g.operator) false ≡ true
        → Dec (operator_number g.operator ≡ k) → has_like same_group g (gs ++ (f ∷ [])) ≡ true
    marked g z (yes q) =
        like_snoc same_group g f gs
        ∙ ap (either (has_like same_group g gs)) (same_number_lem g.operator f.operator (q ∙ e))
        ∙ either_true (has_like same_group g gs)
    marked g z (no q) =
        like_snoc same_group g f gs
        ∙ ap (either (has_like same_group g gs)) (other_number g.operator f.operator (λ i. q (i ∙ sym e)))
        ∙ either_false (has_like same_group g gs)
        ∙ s.marked g (sym (get_or-set_other marks k (operator_number g.operator) true false q) ∙ z)
