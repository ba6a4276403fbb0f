-- Every entry's kind is lawful, wherever it stands (lawful); and the entry as a candidate covers what the decision says
-- that it matches (whole_meets).
use mathlib.Core.Path.{◌≡◌, refl, ap, ◌∙◌}
use mathlib.Core.Bool.{Bool, true, false}
use mathlib.Core.List.{List, [], ◌∷◌, ◌++◌}
use Prim.Native.Nat.{ℕ, ◌<◌}
use native.Mathlib.Omega.{arith}
use lib.Dec.{eqb, leb, ltb}
use lib.ListN.{length}
use borrow.Author.Tests.{eqb-true, eqb-false, ltb-true}
use Rattle.syntax.specs.Policy.{star, StringEquals, StringLike, NumericLessThanEquals, Value, text, number}
use Rattle.syntax.specs.Forms.{both, all, same}
use Rattle.parts.proofs.Laws.Slots.{true_false, both_true}
use Rattle.decision.specs.Matching.{matches}
use Rattle.candidates.specs.Candidates.{Kind, Lawful}
use Rattle.candidates.specs.Beginnings.{begins}
use Rattle.candidates.specs.Kinds.{texts, never, bounds}
use Rattle.candidates.specs.Entries.{Place, in_action, in_resource, in_row, comparison, meets_at, wildcards, last_of}
use Rattle.candidates.specs.Entries.{before, is_legal, is_plain, legal_text, legal_beginning, wild_kind, kind_of}
use Rattle.candidates.proofs.Laws.Bounds.{pick_case, bounds_lawful, upward}
use Rattle.candidates.proofs.Laws.Beginnings.{begins_refl, begins_trans, begins_length}
use Rattle.candidates.proofs.Laws.TextsCover.{Texts}
use Rattle.candidates.proofs.Laws.Texts.{texts_lawful, only_lawful}
use Rattle.candidates.proofs.Laws.Wildcards.{star_matches, Final, final_is, several}

-- ---- legal beginnings

pub record Lengthened (p : Place) (b q : List ℕ) : Type 0 where
  pub begun : begins b q ≡ true
  pub longer : length b < length q
  pub plain : all (is_plain p) q ≡ true
  pub legal : is_legal p (q ++ (star ∷ [])) ≡ true

pub beginning_inv : (p : Place) (b q : List ℕ) → legal_beginning p b q ≡ true → Lengthened p b q
unfolding legal_beginning
beginning_inv p b q e =
    let f = both_true (both (begins b q) (ltb (length b) (length q))) _ e in
    let g = both_true (begins b q) (ltb (length b) (length q)) f.0 in
    let h = both_true (all (is_plain p) q) _ f.1 in
    record { begun = g.0; longer = ltb-true (length b) (length q) g.1; plain = h.0; legal = h.1 }

-- ---- entries with wildcards

module _ (p : Place) (ys : List ℕ) (like : comparison p ≡ StringLike) where
  met : (t : List ℕ) → matches ys t ≡ true → meets_at p (text ys) (text t) ≡ true
  met t h = rw like h

  some_other : (wildcards ys ≡ 0 → ⊥) → (s : List ℕ) → legal_text p s ≡ true
      → (t : List ℕ) × (meets_at p (text ys) (text t) ≡ true) × (same s t ≡ false)
  some_other n s o = let r = several ys s n in (r.0, met r.0 r.1, r.2)

  other_texts : (wildcards ys ≡ 0 → ⊥) → Texts (meets_at p (text ys)) (legal_text p) never
  other_texts n =
      record {
        inside = λ q t w b. absurd (true_false w refl);
        wider = λ q w. absurd (true_false w refl);
        several = some_other n;
      }

  module _ (f : Final ys) where
    begins_met : (t : List ℕ) → begins (before ys) t ≡ true → meets_at p (text ys) (text t) ≡ true
    begins_met t h =
        met t (ap (λ (e : List ℕ). matches e t) f.is ∙ star_matches (before ys) t f.plain ∙ h)

    shorter : (q : List ℕ) (b : Bool) → begins q (before ys) ≡ b → length (before ys) < length q
        → begins q (before ys) ≡ false
    shorter q true e l = absurd (let h = begins_length q (before ys) e in omega arith)
    shorter q false e l = e

    final_texts : (wildcards ys ≡ 0 → ⊥)
        → Texts (meets_at p (text ys)) (legal_text p) (legal_beginning p (before ys))
    final_texts n =
        record {
          inside =
              λ q t w b. begins_met t (begins_trans (before ys) q t (beginning_inv p (before ys) q w).begun b);
          wider =
              λ q w. (
                before ys,
                begins_met (before ys) (begins_refl (before ys)),
                shorter q (begins q (before ys)) refl (beginning_inv p (before ys) q w).longer,
              );
          several = some_other n;
        }

  pub wild_lawful : Lawful (wild_kind p ys)
  unfolding wild_kind
  wild_lawful =
      pick_case Lawful (eqb (wildcards ys) 0) _ _ (λ e. only_lawful _)
      (λ n. pick_case Lawful (both (eqb (wildcards ys) 1) (eqb (last_of ys) star)) _ _ (final (eqb-false _ _ n))
      (λ e. texts_lawful _ _ _ (other_texts (eqb-false _ _ n))))
    where
      final : (wildcards ys ≡ 0 → ⊥) → both (eqb (wildcards ys) 1) (eqb (last_of ys) star) ≡ true
          → Lawful (texts (meets_at p (text ys)) (legal_text p) (legal_beginning p (before ys)))
      final n e =
          let h = both_true (eqb (wildcards ys) 1) (eqb (last_of ys) star) e in
          texts_lawful _ _ _ (final_texts (final_is ys (eqb-true _ _ h.0) (eqb-true _ _ h.1)) n)

-- ---- all entries

pub lawful : (p : Place) (x : Value) → Lawful (kind_of p x)
lawful in_action (text ys) = wild_lawful in_action ys refl
lawful in_action (number n) = only_lawful _
lawful in_resource (text ys) = wild_lawful in_resource ys refl
lawful in_resource (number n) = only_lawful _
lawful (in_row StringEquals) x = only_lawful _
lawful (in_row StringLike) (text ys) = wild_lawful (in_row StringLike) ys refl
lawful (in_row StringLike) (number n) = only_lawful _
lawful (in_row NumericLessThanEquals) (text ys) = only_lawful _
lawful (in_row NumericLessThanEquals) (number n) = bounds_lawful leb upward n

-- ---- the entry as a candidate

abbrev AsWhole : (Value → Bool) → Kind → Type 0
AsWhole m k = (v : Value) → k.covers k.whole v ≡ m v

wild_whole : (p : Place) (ys : List ℕ) → AsWhole (meets_at p (text ys)) (wild_kind p ys)
unfolding wild_kind
wild_whole p ys =
    pick_case (AsWhole (meets_at p (text ys))) (eqb (wildcards ys) 0) _ _ (λ e v. refl)
    (λ n. pick_case (AsWhole (meets_at p (text ys))) (both (eqb (wildcards ys) 1) (eqb (last_of ys) star)) _ _
    (λ e v. refl) (λ e v. refl))

bound_whole : (n : ℕ) → AsWhole (meets_at (in_row NumericLessThanEquals) (number n)) (bounds leb n)
bound_whole n (text t) = refl
bound_whole n (number m) = refl

pub whole_meets : (p : Place) (x v : Value) → (kind_of p x).covers (kind_of p x).whole v ≡ meets_at p x v
whole_meets in_action (text ys) v = wild_whole in_action ys v
whole_meets in_action (number n) v = refl
whole_meets in_resource (text ys) v = wild_whole in_resource ys v
whole_meets in_resource (number n) v = refl
whole_meets (in_row StringEquals) x v = refl
whole_meets (in_row StringLike) (text ys) v = wild_whole (in_row StringLike) ys v
whole_meets (in_row StringLike) (number n) v = refl
whole_meets (in_row NumericLessThanEquals) (text ys) v = refl
whole_meets (in_row NumericLessThanEquals) (number n) v = bound_whole n v
