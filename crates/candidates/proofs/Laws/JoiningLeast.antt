-- What one text generalises to has a text of a row's size, or none.
use mathlib.Core.Path.{◌≡◌, sym, subst}
use mathlib.Core.Bool.{Bool, true, false}
use mathlib.Core.List.{List}
use Prim.Native.Nat.{ℕ, zero, suc, ◌≤◌}
use native.Mathlib.Omega.{arith}
use lib.ListN.{length, take, length-take}
use Rattle.chars.specs.Base.{pick}
use Rattle.syntax.specs.Policy.{text}
use Rattle.candidates.specs.Candidates.{Candidate, single, under, holds}
use Rattle.candidates.specs.Beginnings.{longest_up_to, longest}
use Rattle.candidates.specs.Kinds.{never}
use Rattle.candidates.specs.Entries.{Place, before, legal_text, legal_beginning, wild_kind}
use Rattle.candidates.specs.Rows.{text_characters, row}
use Rattle.candidates.specs.Joining.{Textual, whole_text, single_text, begun_text, Texted}
use Rattle.candidates.proofs.Laws.FittingWild.{by_tests, no_wildcard, final_star, kind_is}

abbrev pub Short : Candidate → Type 0
Short c = Textual (holds c)

pub picked : (b : Bool) (c d : Candidate) → Short c → Short d → Short (pick b c d)
picked true c d s t = s
picked false c d s t = t

module _ (v : List ℕ) (h : length v ≤ text_characters) where
  pub longest_short : (wide : List ℕ → Bool) (n : ℕ) → Short (longest_up_to wide n v)
  unfolding longest_up_to
  longest_short wide zero = whole_text
  longest_short wide (suc n) =
      picked (wide (take (suc n) v)) (under (take (suc n) v)) (longest_up_to wide n v)
      (begun_text (omega (arith, h, length-take (suc n) v))) (longest_short wide n)

  module _ (p : Place) (ys : List ℕ) where
    pub least_short : Short ((wild_kind p ys).least (text v))
    least_short =
        subst (λ k. Short (k.least (text v))) (sym (kind_is p ys)) (by (no_wildcard p ys) (final_star p ys))
      where
        by : (a b : Bool) → Short ((by_tests p ys a b).least (text v))
        by true b = longest_short never (length v)
        by false true =
            picked (legal_text p v) (single v) (longest (legal_beginning p (before ys)) v) (single_text h)
            (longest_short (legal_beginning p (before ys)) (length v))
        by false false =
            picked (legal_text p v) (single v) (longest never v) (single_text h) (longest_short never (length v))

    pub least_texted : {xs : List ℕ} → xs ≡ row (holds ((wild_kind p ys).least (text v))) → Texted xs
    least_texted e = record { content = holds ((wild_kind p ys).least (text v)); textual = least_short; is = e }
