-- By the two wildcards.
use native.Mathlib.Omega.{arith}
use borrow.Author.Tests.{eq-eqb, ne_eqb}
use Rattle.writing.specs.WrittenForm.{bare}
use Rattle.writing.proofs.spelling.bare.Goals as goal

pub returns-in-1114112 : goal.returns-in-1114112
unfolding bare
returns-in-1114112 c = simp (eq-eqb _ _ c.in-1114112.is)

pub returns-in-1114113 : goal.returns-in-1114113
unfolding bare
returns-in-1114113 c = simp (ne_eqb c.args.y 1114112 (λ e. omega arith), eq-eqb _ _ c.in-1114113.is)

pub returns-in_default : goal.returns-in_default
unfolding bare
returns-in_default c = simp (ne_eqb c.args.y 1114112 (λ e. omega arith), ne_eqb c.args.y 1114113 (λ e. omega arith))
