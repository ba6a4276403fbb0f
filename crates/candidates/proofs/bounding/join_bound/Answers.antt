-- The other row's number is charged.
use native.Mathlib.Omega.{arith}
use Rattle.candidates.proofs.Laws.Bounding.{counted, counts, counted_size, join_kept, join_charged}
use Rattle.candidates.proofs.bounding.join_bound.Goals as goal

pub bounds-other-0 : goal.bounds-other-0
bounds-other-0 c = omega (arith, counted_size (counts c.requires.1))

pub number_in-requires : goal.number_in-requires
number_in-requires c = counted_size (counts c.requires.1)

pub returns-then-other-ne-EMPTY : goal.returns-then-other-ne-EMPTY
returns-then-other-ne-EMPTY c =
    λ k x y tx ty f g. join_charged k x y (counted y ty g) c.if-other-ne-EMPTY.true c.number_in.ensures
    (c.charge_bound.ensures k x tx f)

pub returns-else-other-ne-EMPTY : goal.returns-else-other-ne-EMPTY
returns-else-other-ne-EMPTY c =
    λ k x y tx ty f g. join_kept k x y (counted y ty g) c.if-other-ne-EMPTY.false f
