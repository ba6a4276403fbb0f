-- No two alike: one thing more, like none before it, leaves it so; a thing like one before it ends it.
--   differ_snoc, differ_broken   for things that are alike either way round
--   same_row_symmetric ..         rows, groups, statements by their Sids and context entries are so
use mathlib.Core.Path.{◌≡◌, refl, sym, ap, ◌∙◌}
use mathlib.Core.Bool.{Bool, true, false, not}
use mathlib.Core.List.{List, [], ◌∷◌, ◌++◌}
use Prim.Native.Nat.{ℕ}
use lib.Dec.{ltb}
use lib.ListN.{length}
use Rattle.syntax.specs.Policy.{Operator, StringEquals, StringLike, NumericLessThanEquals, Row, Statement}
use Rattle.syntax.specs.Policy.{Context}
use Rattle.syntax.specs.Forms.{both, either, same, same_key}
use Rattle.syntax.specs.Members.{has_like, differ}
use Rattle.syntax.specs.PolicyLayout.{same_operator, Group, same_row, same_group, same_sid}
use Rattle.syntax.specs.RecordLayout.{same_context}
use Rattle.parts.proofs.Laws.Slots.{true_false, both_true}
use Rattle.syntax.proofs.Laws.Same.{same_sound, same_complete, key_sym}

-- ---- tests

either_false : (t u : Bool) → either t u ≡ false → (t ≡ false) × (u ≡ false)
either_false true u e = absurd (true_false refl e)
either_false false u e = (refl, e)

not_true : (t : Bool) → not t ≡ true → t ≡ false
not_true true e = absurd (true_false e refl)
not_true false e = refl

either_true : (t : Bool) {u : Bool} → u ≡ true → either t u ≡ true
either_true true e = refl
either_true false e = e

both_false : (t : Bool) {u : Bool} → u ≡ false → both t u ≡ false
both_false true e = e
both_false false e = refl

-- two tests of which each passes where the other does
alike : (t u : Bool) → (t ≡ true → u ≡ true) → (u ≡ true → t ≡ true) → t ≡ u
alike true u f g = sym (f refl)
alike false true f g = g refl
alike false false f g = refl

-- ---- one thing more

module _ {A : Type 0} (f : A → A → Bool) where
  like_last : (y x : A) (ys : List A) → has_like f y ys ≡ false → f y x ≡ false → has_like f y (ys ++ (x ∷ [])) ≡ false
  unfolding has_like
  like_last y x [] h e = rw e
  like_last y x (z ∷ ys) h e =
      let p = either_false (f y z) (has_like f y ys) h in
      rw p.0 (like_last y x ys p.1 e)

  like_within : (y x : A) (zs ys : List A) → f y x ≡ true → has_like f y (zs ++ (x ∷ ys)) ≡ true
  unfolding has_like
  like_within y x [] ys e = rw e
  like_within y x (z ∷ zs) ys e = either_true (f y z) (like_within y x zs ys e)

  module _ (symmetric : (x y : A) → f x y ≡ f y x) where
    pub differ_snoc :
        (xs : List A) (x : A) → differ f xs ≡ true → has_like f x xs ≡ false → differ f (xs ++ (x ∷ [])) ≡ true
    unfolding differ has_like
    differ_snoc [] x d h = refl
    differ_snoc (y ∷ ys) x d h =
        let p = both_true (not (has_like f y ys)) (differ f ys) d in
        let q = either_false (f x y) (has_like f x ys) h in
        rw (like_last y x ys (not_true (has_like f y ys) p.0) (symmetric y x ∙ q.0)) (differ_snoc ys x p.1 q.1)

    pub differ_broken :
        (xs : List A) (x : A) (ys : List A) → has_like f x xs ≡ true → differ f (xs ++ (x ∷ ys)) ≡ false
    unfolding differ has_like
    differ_broken [] x ys h = absurd (true_false h refl)
    differ_broken (y ∷ zs) x ys h = by (f x y) refl h (differ_broken zs x ys)
      where
        by : (t : Bool) → f x y ≡ t → either t (has_like f x zs) ≡ true
            → (has_like f x zs ≡ true → differ f (zs ++ (x ∷ ys)) ≡ false)
            → both (not (has_like f y (zs ++ (x ∷ ys)))) (differ f (zs ++ (x ∷ ys))) ≡ false
        by true e h r = rw (like_within y x zs ys (symmetric y x ∙ e))
        by false e h r = both_false (not (has_like f y (zs ++ (x ∷ ys)))) (r h)

-- ---- alike either way round

pub same_symmetric : (a b : List ℕ) → same a b ≡ same b a
same_symmetric a b =
    alike (same a b) (same b a) (λ e. same_complete (sym (same_sound a b e)))
    (λ e. same_complete (sym (same_sound b a e)))

pub same_key_symmetric : (k l : List ℕ) → same_key k l ≡ same_key l k
same_key_symmetric k l = alike (same_key k l) (same_key l k) (key_sym k l) (key_sym l k)

pub same_operator_symmetric : (o p : Operator) → same_operator o p ≡ same_operator p o
same_operator_symmetric StringEquals StringEquals = refl
same_operator_symmetric StringEquals StringLike = refl
same_operator_symmetric StringEquals NumericLessThanEquals = refl
same_operator_symmetric StringLike StringEquals = refl
same_operator_symmetric StringLike StringLike = refl
same_operator_symmetric StringLike NumericLessThanEquals = refl
same_operator_symmetric NumericLessThanEquals StringEquals = refl
same_operator_symmetric NumericLessThanEquals StringLike = refl
same_operator_symmetric NumericLessThanEquals NumericLessThanEquals = refl

pub same_row_symmetric : (r q : Row) → same_row r q ≡ same_row q r
same_row_symmetric r q = same_key_symmetric r.key q.key

pub same_group_symmetric : (g h : Group) → same_group g h ≡ same_group h g
same_group_symmetric g h = same_operator_symmetric g.operator h.operator

pub same_context_symmetric : (c d : Context) → same_context c d ≡ same_context d c
same_context_symmetric c d = same_key_symmetric c.key d.key

-- Sids that are the same are of one length
sid_turned : (x y : Statement) → same_sid x y ≡ true → same_sid y x ≡ true
sid_turned x y e =
    let p = both_true (ltb 0 (length x.sid)) (same x.sid y.sid) e in
    let q = same_sound x.sid y.sid p.1 in
    ap (λ (l : List ℕ). both (ltb 0 (length l)) (same l x.sid)) (sym q)
    ∙ ap (λ (t : Bool). both t (same x.sid x.sid)) p.0
    ∙ same_complete refl

pub same_sid_symmetric : (x y : Statement) → same_sid x y ≡ same_sid y x
same_sid_symmetric x y = alike (same_sid x y) (same_sid y x) (sid_turned x y) (sid_turned y x)
