-- By how many wildcards there are, and by the last symbol.
use native.Mathlib.Omega.{arith}
use Rattle.candidates.proofs.Laws.Counting.{some_wildcard, wild_none, wild_many, wild_final, wild_inside}
use Rattle.candidates.proofs.kinds.Wild.of.Goals as goal

pub overflow_sub-ys : goal.overflow_sub-ys
overflow_sub-ys c = omega (arith, some_wildcard _ c.wildcards.ensures (λ z. omega arith))

pub bounds-ys-ys : goal.bounds-ys-ys
bounds-ys-ys c = omega (arith, some_wildcard _ c.wildcards.ensures (λ z. omega arith))

pub returns-in-0 : goal.returns-in-0
returns-in-0 c = wild_none _ c.wildcards.ensures c.in-0.is

pub returns-in-1 : goal.returns-in-1
returns-in-1 c =
    wild_final _ c.wildcards.ensures (λ z. omega arith) c.in-1.is c.if-ys-eq-STAR.true

pub returns-in_default : goal.returns-in_default
returns-in_default c =
    wild_inside _ c.wildcards.ensures (λ z. omega arith) c.in-1.is c.if-ys-eq-STAR.false

pub returns-in_default-2 : goal.returns-in_default-2
returns-in_default-2 c = wild_many _ c.wildcards.ensures (λ z. omega arith) (λ z. omega arith)
