-- Test by test.
use mathlib.Core.Path.{sym, ◌∙◌}
use Rattle.candidates.proofs.Laws.Counting.{star_part, not_final}
use Rattle.candidates.proofs.Laws.FittingText.{under_long, under_tail, under_legal, not_under}
use Rattle.candidates.proofs.fitting.fits_beginning.Goals as goal

pub returns-then-n-gt-ENTRY : goal.returns-then-n-gt-ENTRY
returns-then-n-gt-ENTRY c = λ g. under_long _ _ _ c.requires g c.if-n-gt-ENTRY.true

pub slice_bounds-legal_beginning-end : goal.slice_bounds-legal_beginning-end
slice_bounds-legal_beginning-end c = star_part _ (sym c.in-FinalStar.ensures)

pub returns-then-is_zero_from : goal.returns-then-is_zero_from
returns-then-is_zero_from c =
    λ g. c.legal_beginning.ensures ∙ under_legal _ _ _ c.requires g c.if-n-gt-ENTRY.false
    (sym c.is_zero_from.ensures ∙ c.if-is_zero_from.true) (sym c.in-FinalStar.ensures)

pub returns-else-is_zero_from : goal.returns-else-is_zero_from
returns-else-is_zero_from c =
    λ g. c.if-is_zero_from.false ∙ under_tail _ _ _ c.requires g c.if-n-gt-ENTRY.false
    (sym c.is_zero_from.ensures ∙ c.if-is_zero_from.false)

pub returns-in-Without : goal.returns-in-Without
returns-in-Without c =
    λ g. not_under _ _ _ c.requires g c.if-n-gt-ENTRY.false (λ z. not_final c.in-Without.is (c.of.ensures ∙ z))
