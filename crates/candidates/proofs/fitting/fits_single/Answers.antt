-- Test by test.
use mathlib.Core.Path.{sym, ◌∙◌}
use Rattle.candidates.proofs.Laws.Chains.{true_not}
use Rattle.candidates.proofs.Laws.Counting.{not_without}
use Rattle.candidates.proofs.Laws.FittingText.{single_long, single_tail, single_none_fits, single_no_match}
use Rattle.candidates.proofs.Laws.FittingText.{single_legal}
use Rattle.candidates.proofs.fitting.fits_single.Goals as goal
use Rattle.candidates.proofs.fitting.fits_single.Goals.{then-is_zero_from, else-is_zero_from}

pub returns-then-n-gt-ENTRY : goal.returns-then-n-gt-ENTRY
returns-then-n-gt-ENTRY c = λ o g. single_long _ _ _ c.requires g c.if-n-gt-ENTRY.true

pub returns-then-matches : goal.returns-then-matches
returns-then-matches c =
    λ o g. elim c.if-is_zero_from.branch [
      | then-is_zero_from w ↦
          c.legal_text.ensures ∙ single_legal _ _ _ c.requires g c.if-n-gt-ENTRY.false
          (sym c.is_zero_from.ensures ∙ w.if-is_zero_from.true) o
          (λ z. not_without c.in-FinalStar.is (c.of.ensures ∙ z))
          (sym w.matches.ensures ∙ sym w.value-is ∙ c.if-matches.true)
      | else-is_zero_from w ↦ absurd (true_not (sym c.if-matches.true ∙ w.value-is ∙ w.if-is_zero_from.false))
    ]

pub returns-else-matches : goal.returns-else-matches
returns-else-matches c =
    λ o g. c.if-matches.false ∙ elim c.if-is_zero_from.branch [
      | then-is_zero_from w ↦
          single_no_match _ _ _ c.requires g c.if-n-gt-ENTRY.false
          (sym c.is_zero_from.ensures ∙ w.if-is_zero_from.true) o
          (λ z. not_without c.in-FinalStar.is (c.of.ensures ∙ z))
          (sym w.matches.ensures ∙ sym w.value-is ∙ c.if-matches.false)
      | else-is_zero_from w ↦
          single_tail _ _ _ c.requires g c.if-n-gt-ENTRY.false (sym c.is_zero_from.ensures ∙ w.if-is_zero_from.false)
    ]

pub returns-in-Without : goal.returns-in-Without
returns-in-Without c = λ o g. single_none_fits _ _ _ c.requires g c.if-n-gt-ENTRY.false (sym c.of.ensures ∙ c.in-Without.is)
