-- The halves as a held run has them.
use native.Mathlib.Omega.{arith}
use Rattle.syntax.specs.Policy.{number}
use Rattle.refined.proofs.Laws.Keeping.{bound_size, bound_upper, bound_lies}
use Rattle.refined.proofs.finishing.put_bound.Goals as goal

pub bounds-row-1 : goal.bounds-row-1
bounds-row-1 c = omega (arith, bound_size c.requires)

pub overflow_add-held : goal.overflow_add-held
overflow_add-held c = omega (arith, bound_upper c.requires, c.requires.short)

pub bounds-row-2 : goal.bounds-row-2
bounds-row-2 c = omega (arith, bound_size c.requires)

pub put_entry-requires : goal.put_entry-requires
put_entry-requires c =
    record { thing = number c.requires.number; lies = bound_lies c.requires }

pub returns : goal.returns
returns c = λ y. c.put_entry.ensures (number y.number) (bound_lies y)
