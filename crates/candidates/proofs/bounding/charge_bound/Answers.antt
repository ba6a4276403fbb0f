-- The first number is put; a lower one changes nothing, another is put in its place.
use native.Mathlib.Omega.{arith}
use Rattle.candidates.proofs.Laws.Bounding.{counted, counts, counted_size, bound_first, bound_kept, bound_raised}
use Rattle.candidates.proofs.bounding.charge_bound.Goals as goal
use Rattle.candidates.proofs.bounding.charge_bound.Goals.{then-out-eq-EMPTY-via-then-out-eq-EMPTY, then-out-eq-EMPTY-via-else-out-eq-EMPTY+then-n-number_in}

pub bounds-out-0 : goal.bounds-out-0
bounds-out-0 c = omega (arith, counted_size (counts c.requires))

pub number_in-requires : goal.number_in-requires
number_in-requires c = counted_size (counts c.requires)

pub put_number-requires : goal.put_number-requires
put_number-requires c = counted_size (counts c.requires)

pub returns-then-out-eq-EMPTY : goal.returns-then-out-eq-EMPTY
returns-then-out-eq-EMPTY c =
    λ k x t f. elim c.then-out-eq-EMPTY.branch [
      | then-out-eq-EMPTY-via-then-out-eq-EMPTY w ↦
          bound_first k _ x (counted x t f) w.if-out-eq-EMPTY.true c.put_number.ensures
      | then-out-eq-EMPTY-via-else-out-eq-EMPTY+then-n-number_in w ↦
          bound_raised k _ x (counted x t f) w.if-out-eq-EMPTY.false w.number_in.ensures w.if-n-number_in.true
          c.put_number.ensures
    ]

pub returns-else-n-number_in : goal.returns-else-n-number_in
returns-else-n-number_in c =
    λ k x t f. bound_kept k _ x (counted x t f) c.if-out-eq-EMPTY.false c.number_in.ensures
    c.if-n-number_in.false f
