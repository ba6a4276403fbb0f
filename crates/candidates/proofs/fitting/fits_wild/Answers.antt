-- By what stands first.
use mathlib.Core.Path.{◌∙◌}
use native.Mathlib.Omega.{arith}
use Rattle.candidates.proofs.Laws.Fitting.{row_zero, row_itself}
use Rattle.candidates.proofs.Laws.FittingWild.{itself_among, mark_not}
use Rattle.candidates.proofs.fitting.fits_wild.Goals as goal

pub returns-in-0 : goal.returns-in-0
returns-in-0 c = λ o. c.is_zero.ensures ∙ row_zero _ _ c.requires c.in-0.is

pub returns-in-1 : goal.returns-in-1
returns-in-1 c = λ o. c.is_zero_from.ensures ∙ row_itself _ _ c.requires c.in-1.is (itself_among _ _)

pub returns-in_default : goal.returns-in_default
returns-in_default c =
    λ o. mark_not _ _ _ c.requires (λ z. omega arith) (λ z. omega arith) (λ z. omega arith) (λ z. omega arith)
