-- What an entry that is matched by wildcards can have in its row, by its kind's number.
use mathlib.Core.Path.{◌≡◌, refl, sym, ap, ◌∙◌}
use mathlib.Core.Bool.{Bool, true, false}
use mathlib.Core.List.{List}
use Prim.Native.Nat.{ℕ, ◌-◌}
use native.Mathlib.Omega.{arith}
use native.Mathlib.Decide.{ℕ_discrete}
use lib.Dec.{eqb}
use lib.ListN.{length, get_or, take, drop, length-drop}
use lib.Seq.{take_all}
use borrow.Author.Tests.{ne_eqb}
use Rattle.chars.specs.Base.{pick}
use Rattle.syntax.specs.Policy.{star, Operator, StringLike, Value, text}
use Rattle.syntax.specs.Forms.{both, same}
use Rattle.decision.specs.Matching.{matches}
use Rattle.decision.specs.Decision.{meets}
use Rattle.candidates.specs.Candidates.{Candidate, itself, single, under, up_to, holds, Kind}
use Rattle.candidates.specs.Kinds.{texts, only, never}
use Rattle.candidates.specs.Entries.{Place, comparison, meets_at, wildcards, last_of, before, legal_text, legal_beginning}
use Rattle.candidates.specs.Entries.{wild_kind}
use Rattle.candidates.specs.Places.{wild_of}
use Rattle.candidates.specs.declared.kinds.Wild.{Wild}
use Rattle.candidates.specs.declared.kinds.Wild.TheVariants as W
use Rattle.candidates.specs.Rows.{row_numbers, row, is_zero, content_of, is_row, number_in, text_in}
use Rattle.candidates.proofs.Laws.Forming.{both_no}
use Rattle.candidates.proofs.Laws.Fitting.{known, single_is, under_is}

pub part_zero : (xs : List ℕ) (n : ℕ) → is_zero (take (length xs - n) (drop n xs)) ≡ is_zero (drop n xs)
part_zero xs n = ap is_zero (take_all (length xs - n) (drop n xs) (omega (arith, length-drop n xs)))

module _ (p : Place) (ys : List ℕ) where
  abbrev m : Value → Bool
  m v = meets_at p (text ys) v

  -- the kind, by the two tests that give its number
  abbrev pub by_tests : Bool → Bool → Kind
  by_tests a b = pick a (only m) (pick b (texts m (legal_text p) (legal_beginning p (before ys)))
      (texts m (legal_text p) never))

  abbrev pub number : Bool → Bool → Wild
  number a b = pick a W.Without (pick b (W.FinalStar (length ys - 1)) W.Others)

  abbrev pub no_wildcard : Bool
  no_wildcard = eqb (wildcards ys) 0

  abbrev pub final_star : Bool
  final_star = both (eqb (wildcards ys) 1) (eqb (last_of ys) star)

  pub kind_is : wild_kind p ys ≡ by_tests no_wildcard final_star
  unfolding wild_kind
  kind_is = refl

  pub number_is : wild_of ys ≡ number no_wildcard final_star
  unfolding wild_of
  number_is = refl

  abbrev is_a : Candidate → Bool
  is_a c = (wild_kind p ys).is c

  by_kind : (c : Candidate) → is_a c ≡ (by_tests no_wildcard final_star).is c
  by_kind c = ap (λ (k : Kind). k.is c) kind_is

  pub itself_among : is_a itself ≡ true
  itself_among = by_kind itself ∙ by no_wildcard final_star
    where
      by : (a b : Bool) → (by_tests a b).is itself ≡ true
      by true b = refl
      by false true = refl
      by false false = refl

  pub number_not : (n : ℕ) → is_a (up_to n) ≡ false
  number_not n = by_kind (up_to n) ∙ by no_wildcard final_star
    where
      by : (a b : Bool) → (by_tests a b).is (up_to n) ≡ false
      by true b = refl
      by false true = refl
      by false false = refl

  module _ (t : List ℕ) where
    pub single_none : wild_of ys ≡ W.Without → is_a (single t) ≡ false
    single_none e = by_kind (single t) ∙ by no_wildcard final_star (sym number_is ∙ e)
      where
        by : (a b : Bool) → number a b ≡ W.Without → (by_tests a b).is (single t) ≡ false
        by true b e = both_no (m (text t))
        by false true e = cc
        by false false e = cc

    single_some : (wild_of ys ≡ W.Without → ⊥) → is_a (single t) ≡ both (m (text t)) (legal_text p t)
    single_some s = by_kind (single t) ∙ by no_wildcard final_star (λ e. s (number_is ∙ e))
      where
        by : (a b : Bool) → (number a b ≡ W.Without → ⊥) → (by_tests a b).is (single t) ≡ both (m (text t)) (legal_text p t)
        by true b s = absurd (s refl)
        by false true s = refl
        by false false s = refl

    pub single_matched :
        comparison p ≡ StringLike → (wild_of ys ≡ W.Without → ⊥) → is_a (single t) ≡ both (matches ys t) (legal_text p t)
    single_matched e s =
        single_some s ∙ ap (λ (o : Operator). both (meets o (text ys) (text t)) (legal_text p t)) e

    pub under_final : wild_of ys ≡ W.FinalStar (length ys - 1) → is_a (under t) ≡ legal_beginning p (before ys) t
    under_final e = by_kind (under t) ∙ by no_wildcard final_star (sym number_is ∙ e)
      where
        by : (a b : Bool) → number a b ≡ W.FinalStar (length ys - 1) → (by_tests a b).is (under t) ≡ legal_beginning p (before ys) t
        by true b e = cc
        by false true e = refl
        by false false e = cc

    pub under_other : (wild_of ys ≡ W.FinalStar (length ys - 1) → ⊥) → is_a (under t) ≡ false
    under_other s = by_kind (under t) ∙ by no_wildcard final_star (λ e. s (number_is ∙ e))
      where
        by : (a b : Bool) → (number a b ≡ W.FinalStar (length ys - 1) → ⊥) → (by_tests a b).is (under t) ≡ false
        by true b s = refl
        by false true s = absurd (s refl)
        by false false s = refl

  -- any other mark is a number's, and a text's entry has none
  module _ (xs : List ℕ) (size : length xs ≡ row_numbers) where
    abbrev mark : ℕ
    mark = get_or xs 0 0

    pub mark_not :
        (mark ≡ 0 → ⊥) → (mark ≡ 1 → ⊥) → (mark ≡ 2 → ⊥) → (mark ≡ 3 → ⊥) → false ≡ is_row (wild_kind p ys) xs
    unfolding content_of
    mark_not a b c d =
        sym (known (wild_kind p ys) xs size (holds (up_to (number_in xs))) number_held
        ∙ ap (λ (t : Bool). both t (same (row (holds (up_to (number_in xs)))) xs)) (number_not (number_in xs)))
      where
        number_held : content_of xs ≡ holds (up_to (number_in xs))
        number_held = rw (ne_eqb mark 0 a, ne_eqb mark 1 b, ne_eqb mark 2 c, ne_eqb mark 3 d) refl

-- ---- an entry that is compared

module _ (m : Value → Bool) (xs : List ℕ) (size : length xs ≡ row_numbers) where
  not_among : (c : Candidate) → (only m).is c ≡ false → content_of xs ≡ holds c → false ≡ is_row (only m) xs
  not_among c e h =
      sym (known (only m) xs size (holds c) h ∙ ap (λ (t : Bool). both t (same (row (holds c)) xs)) e)

  pub only_not : (get_or xs 0 0 ≡ 0 → ⊥) → (get_or xs 0 0 ≡ 1 → ⊥) → false ≡ is_row (only m) xs
  unfolding content_of
  only_not a b = by (ℕ_discrete mark 2) (ℕ_discrete mark 3)
    where
      mark : ℕ
      mark = get_or xs 0 0

      by : Dec (mark ≡ 2) → Dec (mark ≡ 3) → false ≡ is_row (only m) xs
      by (yes c) d = not_among (single (text_in xs)) (both_no (m (text (text_in xs)))) (single_is xs c)
      by (no c) (yes d) = not_among (under (text_in xs)) refl (under_is xs d)
      by (no c) (no d) =
          not_among (up_to (number_in xs)) refl
          (rw (ne_eqb mark 0 a, ne_eqb mark 1 b, ne_eqb mark 2 c, ne_eqb mark 3 d) refl)
