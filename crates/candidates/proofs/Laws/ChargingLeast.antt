-- What one text generalises to, by the number of the entry's kind.
use mathlib.Core.Path.{◌≡◌, refl, sym, ap, ◌∙◌}
use mathlib.Core.Bool.{Bool, true, false}
use mathlib.Core.List.{List, [], ◌∷◌}
use Prim.Native.Nat.{ℕ, zero, suc, ◌-◌}
use lib.ListN.{length, take}
use Rattle.chars.specs.Base.{pick}
use Rattle.syntax.specs.Policy.{text}
use Rattle.candidates.specs.Candidates.{Candidate, itself, single, holds}
use Rattle.candidates.specs.Beginnings.{longest_up_to, longest}
use Rattle.candidates.specs.Kinds.{never}
use Rattle.candidates.specs.Entries.{Place, before, legal_text, legal_beginning, wild_kind}
use Rattle.candidates.specs.Places.{wild_of}
use Rattle.candidates.specs.declared.kinds.Wild.TheVariants as W
use Rattle.candidates.specs.Rows.{padded, row}
use Rattle.candidates.proofs.Laws.Counting.{star_before, star_is}
use Rattle.candidates.proofs.Laws.Fitting.{single_row}
use Rattle.candidates.proofs.Laws.FittingWild.{by_tests, number, no_wildcard, final_star, kind_is, number_is}

pub longest_never : (n : ℕ) (t : List ℕ) → longest_up_to never n t ≡ itself
unfolding longest_up_to
longest_never zero t = refl
longest_never (suc n) t = longest_never n t

pub mark_row : row (holds itself) ≡ padded (1 ∷ [])
unfolding row
mark_row = refl

module _ (p : Place) (ys v : List ℕ) where
  abbrev least : Candidate
  least = (wild_kind p ys).least (text v)

  by_tests_lem : least ≡ (by_tests p ys (no_wildcard p ys) (final_star p ys)).least (text v)
  by_tests_lem = ap (λ k. k.least (text v)) (kind_is p ys)

  module _ {out : List ℕ} where
    itself_put : least ≡ itself → out ≡ padded (1 ∷ []) → out ≡ row (holds least)
    itself_put e g = g ∙ sym mark_row ∙ ap (λ (c : Candidate). row (holds c)) (sym e)

    pub least_none : wild_of ys ≡ W.Without → out ≡ padded (1 ∷ []) → out ≡ row (holds least)
    least_none e g =
        itself_put (by_tests_lem ∙ by (no_wildcard p ys) (final_star p ys) (sym (number_is p ys) ∙ e)) g
      where
        by : (a b : Bool) → number p ys a b ≡ W.Without → (by_tests p ys a b).least (text v) ≡ itself
        by true b e = longest_never (length v) v
        by false true e = cc
        by false false e = cc

    module _ (s : wild_of ys ≡ W.Without → ⊥) where
      pub least_legal : legal_text p v ≡ true → out ≡ padded (2 ∷ length v ∷ v) → out ≡ row (holds least)
      least_legal e g =
          g ∙ sym (single_row v)
          ∙ ap (λ (c : Candidate). row (holds c))
          (sym (by_tests_lem ∙ by (no_wildcard p ys) (final_star p ys) (λ z. s (number_is p ys ∙ z))))
        where
          by : (a b : Bool) → (number p ys a b ≡ W.Without → ⊥) → (by_tests p ys a b).least (text v) ≡ single v
          by true b s = absurd (s refl)
          by false true s =
              ap (λ (t : Bool). pick t (single v) (longest (legal_beginning p (before ys)) v)) e
          by false false s = ap (λ (t : Bool). pick t (single v) (longest never v)) e

      module _ (e : legal_text p v ≡ false) where
        pub least_other : (wild_of ys ≡ W.FinalStar (length ys - 1) → ⊥) → out ≡ padded (1 ∷ []) → out ≡ row (holds least)
        least_other q g =
            itself_put
            (by_tests_lem
            ∙ by (no_wildcard p ys) (final_star p ys) (λ z. s (number_is p ys ∙ z)) (λ z. q (number_is p ys ∙ z))) g
          where
            by : (a b : Bool) → (number p ys a b ≡ W.Without → ⊥) → (number p ys a b ≡ W.FinalStar (length ys - 1) → ⊥)
                → (by_tests p ys a b).least (text v) ≡ itself
            by true b s q = absurd (s refl)
            by false true s q = absurd (q refl)
            by false false s q =
                ap (λ (t : Bool). pick t (single v) (longest never v)) e ∙ longest_never (length v) v

        pub least_final :
            {n : ℕ} → wild_of ys ≡ W.FinalStar n → out ≡ row (holds (longest (legal_beginning p (take n ys)) v))
            → out ≡ row (holds least)
        least_final q g =
            g ∙ ap (λ (b : List ℕ). row (holds (longest (legal_beginning p b) v))) (star_before ys q)
            ∙ ap (λ (c : Candidate). row (holds c))
            (sym (by_tests_lem ∙ by (no_wildcard p ys) (final_star p ys) (sym (number_is p ys) ∙ star_is ys q)))
          where
            by : (a b : Bool) → number p ys a b ≡ W.FinalStar (length ys - 1)
                → (by_tests p ys a b).least (text v) ≡ longest (legal_beginning p (before ys)) v
            by true b q = cc
            by false true q = ap (λ (t : Bool). pick t (single v) (longest (legal_beginning p (before ys)) v)) e
            by false false q = cc
