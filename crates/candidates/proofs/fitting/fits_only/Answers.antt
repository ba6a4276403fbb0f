-- By what stands first.
use mathlib.Core.Path.{refl, ◌∙◌}
use native.Mathlib.Omega.{arith}
use Rattle.candidates.proofs.Laws.Fitting.{row_zero, row_itself}
use Rattle.candidates.proofs.Laws.FittingWild.{only_not}
use Rattle.candidates.proofs.fitting.fits_only.Goals as goal

pub returns-in-0 : goal.returns-in-0
returns-in-0 c = λ m. c.is_zero.ensures ∙ row_zero _ _ c.requires c.in-0.is

pub returns-in-1 : goal.returns-in-1
returns-in-1 c =
    λ m. c.is_zero_from.ensures ∙ row_itself _ _ c.requires c.in-1.is refl

pub returns-in_default : goal.returns-in_default
returns-in_default c = λ m. only_not m _ c.requires (λ z. omega arith) (λ z. omega arith)
