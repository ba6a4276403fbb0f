-- By what stands first; the halves are those of the number that they make.
use mathlib.Core.Path.{sym, ap, ◌∙◌}
use Prim.Native.Nat.{ℕ}
use native.Mathlib.Omega.{arith}
use lib.Dec.{leb}
use Rattle.candidates.proofs.Laws.Fitting.{row_zero}
use Rattle.candidates.proofs.Laws.FittingBound.{bound_not, bound_tail, bound_held}
use Rattle.candidates.proofs.fitting.fits_bound.Goals as goal

pub returns-in-0 : goal.returns-in-0
returns-in-0 c = c.is_zero.ensures ∙ row_zero _ _ c.requires c.in-0.is

pub returns-then-is_zero_from : goal.returns-then-is_zero_from
returns-then-is_zero_from c =
    ap (λ (m : ℕ). leb m c.args.n) c.number_in.ensures ∙ bound_held _ _ c.requires (λ z. omega arith)
    c.in-4.is (omega (arith, c.type_inv.row 2)) (sym c.is_zero_from.ensures ∙ c.if-is_zero_from.true)

pub returns-else-is_zero_from : goal.returns-else-is_zero_from
returns-else-is_zero_from c =
    c.if-is_zero_from.false
    ∙ bound_tail _ _ c.requires (λ z. omega arith) c.in-4.is (omega (arith, c.type_inv.row 2))
    (sym c.is_zero_from.ensures ∙ c.if-is_zero_from.false)

pub returns-in_default : goal.returns-in_default
returns-in_default c = bound_not _ _ c.requires (λ z. omega arith) (λ z. omega arith)
