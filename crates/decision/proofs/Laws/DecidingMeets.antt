-- Values in the runs, told apart by the mark of a number, and what an operator makes of them.
use mathlib.Core.Path.{◌≡◌, refl, sym, ap, ◌∙◌, subst}
use mathlib.Core.Bool.{Bool, false}
use mathlib.Core.List.{List}
use Prim.Native.Nat.{ℕ, ◌≤◌, ◌<◌}
use native.Mathlib.Omega.{arith}
use lib.Dec.{leb, eqb}
use lib.ListN.{get_or}
use Rattle.syntax.specs.Forms.{same}
use Rattle.held.proofs.Laws.Parts.{is_number_lem, is_text_lem}
use Rattle.decision.specs.Matching.{matches}
use Rattle.syntax.specs.Policy.{Operator, StringEquals, StringLike, NumericLessThanEquals}
use Rattle.syntax.specs.Policy.{Value, text, number}
use Rattle.held.specs.Held.{held_text, held_number, held_value, mark, operator_number, type_number}
use Rattle.held.specs.Lying.{Lies}
use Rattle.decision.specs.Decision.{typed, meets}

-- ---- types

number_typed : (o : Operator) (v : Value) → operator_number o ≡ 3 → eqb (type_number v) 2 ≡ typed o v
number_typed StringEquals v h = absurd (omega arith)
number_typed StringLike v h = absurd (omega arith)
number_typed NumericLessThanEquals (text cs) h = refl
number_typed NumericLessThanEquals (number n) h = refl

text_typed : (o : Operator) (v : Value) → (operator_number o ≡ 3 → ⊥) → eqb (type_number v) 1 ≡ typed o v
text_typed StringEquals (text cs) h = refl
text_typed StringEquals (number n) h = refl
text_typed StringLike (text cs) h = refl
text_typed StringLike (number n) h = refl
text_typed NumericLessThanEquals v h = absurd (h refl)

module _ (o : Operator) (v : Value) {k t : ℕ} (e : k ≡ operator_number o) (f : t ≡ type_number v) where
  pub typed_number : k ≡ 3 → eqb t 2 ≡ typed o v
  typed_number h = ap (λ (z : ℕ). eqb z 2) f ∙ number_typed o v (sym e ∙ h)

  pub typed_text : (k ≡ 3 → ⊥) → eqb t 1 ≡ typed o v
  typed_text h = ap (λ (z : ℕ). eqb z 1) f ∙ text_typed o v (λ z. h (e ∙ z))

-- ---- a comparison of the texts at two places

pub both_same :
    (f : List ℕ → List ℕ → Bool) {xs ys x y : List ℕ} {b : Bool} → xs ≡ x → ys ≡ y → b ≡ f xs ys → b ≡ f x y
both_same f {ys = ys} {x = x} p q e = e ∙ ap (λ (l : List ℕ). f l ys) p ∙ ap (f x) q

-- ---- what meets

other_number : (o : Operator) (x : Value) (m : ℕ) → (operator_number o ≡ 3 → ⊥) → false ≡ meets o x (number m)
other_number StringEquals (text xs) m h = refl
other_number StringEquals (number n) m h = refl
other_number StringLike (text xs) m h = refl
other_number StringLike (number n) m h = refl
other_number NumericLessThanEquals x m h = absurd (h refl)

text_number : (o : Operator) (xs : List ℕ) (m : ℕ) → false ≡ meets o (text xs) (number m)
text_number StringEquals xs m = refl
text_number StringLike xs m = refl
text_number NumericLessThanEquals xs m = refl

number_number : (o : Operator) (n m : ℕ) → operator_number o ≡ 3 → leb m n ≡ meets o (number n) (number m)
number_number StringEquals n m h = absurd (omega arith)
number_number StringLike n m h = absurd (omega arith)
number_number NumericLessThanEquals n m h = refl

number_text : (o : Operator) (n : ℕ) (cs : List ℕ) → false ≡ meets o (number n) (text cs)
number_text StringEquals n cs = refl
number_text StringLike n cs = refl
number_text NumericLessThanEquals n cs = refl

same_text_lem : (o : Operator) (xs cs : List ℕ) → operator_number o ≡ 1 → same xs cs ≡ meets o (text xs) (text cs)
same_text_lem StringEquals xs cs h = refl
same_text_lem StringLike xs cs h = absurd (omega arith)
same_text_lem NumericLessThanEquals xs cs h = absurd (omega arith)

like_text : (o : Operator) (xs cs : List ℕ) → operator_number o ≡ 2 → matches xs cs ≡ meets o (text xs) (text cs)
like_text StringEquals xs cs h = absurd (omega arith)
like_text StringLike xs cs h = refl
like_text NumericLessThanEquals xs cs h = absurd (omega arith)

no_text :
    (o : Operator) (xs cs : List ℕ) → (operator_number o ≡ 1 → ⊥) → (operator_number o ≡ 2 → ⊥)
    → false ≡ meets o (text xs) (text cs)
no_text StringEquals xs cs h g = absurd (h refl)
no_text StringLike xs cs h g = absurd (g refl)
no_text NumericLessThanEquals xs cs h g = refl

-- an entry x of the policy at p and a value y of the request at q, by the operator's number k
module _ {run at : List ℕ} {p q k : ℕ} (o : Operator) (x y : Value) (e : k ≡ operator_number o)
    (l : Lies run p (held_value x)) (m : Lies at q (held_value y)) where
  pub meets_other : mark ≤ get_or at q 0 → (k ≡ 3 → ⊥) → false ≡ meets o x y
  meets_other h g =
      let b = is_number_lem y m h in
      other_number o x b.value (λ z. g (e ∙ z)) ∙ ap (meets o x) (sym b.is)

  pub meets_apart : mark ≤ get_or at q 0 → get_or run p 0 < mark → false ≡ meets o x y
  meets_apart h g =
      let a = is_text_lem x l g in
      let b = is_number_lem y m h in
      text_number o a.characters b.value ∙ ap (λ (z : Value). meets o z (number b.value)) (sym a.is)
      ∙ ap (meets o x) (sym b.is)

  pub meets_number :
      mark ≤ get_or at q 0 → mark ≤ get_or run p 0 → k ≡ 3 → (r : Bool)
      → ((i j : ℕ) → Lies run p (held_number i) → Lies at q (held_number j) → r ≡ leb j i) → r ≡ meets o x y
  meets_number h g f r s =
      let a = is_number_lem x l g in
      let b = is_number_lem y m h in
      let la = subst (λ (z : Value). Lies run p (held_value z)) a.is l in
      let lb = subst (λ (z : Value). Lies at q (held_value z)) b.is m in
      s a.value b.value la lb ∙ number_number o a.value b.value (sym e ∙ f)
      ∙ ap (λ (z : Value). meets o z (number b.value)) (sym a.is) ∙ ap (meets o x) (sym b.is)

  pub meets_unlike : get_or at q 0 < mark → mark ≤ get_or run p 0 → false ≡ meets o x y
  meets_unlike h g =
      let a = is_number_lem x l g in
      let b = is_text_lem y m h in
      number_text o a.value b.characters ∙ ap (λ (z : Value). meets o z (text b.characters)) (sym a.is)
      ∙ ap (meets o x) (sym b.is)

  module _ (h : get_or at q 0 < mark) (g : get_or run p 0 < mark) where
    both_texts :
        (r : Bool)
        → ((xs cs : List ℕ) → Lies run p (held_text xs) → Lies at q (held_text cs) → r ≡ meets o (text xs) (text cs))
        → r ≡ meets o x y
    both_texts r s =
        let a = is_text_lem x l g in
        let b = is_text_lem y m h in
        let la = subst (λ (z : Value). Lies run p (held_value z)) a.is l in
        let lb = subst (λ (z : Value). Lies at q (held_value z)) b.is m in
        s a.characters b.characters la lb
        ∙ ap (λ (z : Value). meets o z (text b.characters)) (sym a.is) ∙ ap (meets o x) (sym b.is)

    pub meets_same :
        k ≡ 1 → (r : Bool)
        → ((xs cs : List ℕ) → Lies run p (held_text xs) → Lies at q (held_text cs) → r ≡ same xs cs) → r ≡ meets o x y
    meets_same f r s = both_texts r (λ xs cs i j. s xs cs i j ∙ same_text_lem o xs cs (sym e ∙ f))

    pub meets_like :
        k ≡ 2 → (r : Bool)
        → ((xs cs : List ℕ) → Lies run p (held_text xs) → Lies at q (held_text cs) → r ≡ matches xs cs) → r ≡ meets o x y
    meets_like f r s = both_texts r (λ xs cs i j. s xs cs i j ∙ like_text o xs cs (sym e ∙ f))

    pub meets_none : (k ≡ 1 → ⊥) → (k ≡ 2 → ⊥) → false ≡ meets o x y
    meets_none f f' = both_texts false (λ xs cs i j. no_text o xs cs (λ z. f (e ∙ z)) (λ z. f' (e ∙ z)))
