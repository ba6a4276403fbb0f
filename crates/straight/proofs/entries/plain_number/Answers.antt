-- What the scan passed is a JSON number, and the number that it spells is put in the run.
-- where the function starts
use native.Mathlib.Omega.{arith}
use Rattle.straight.proofs.Laws.Numbers.{plain_bound, plain_taken}
use Rattle.straight.proofs.entries.plain_number.Goals as goal

pub slice_bounds-number_spelt-count : goal.slice_bounds-number_spelt-count
slice_bounds-number_spelt-count c = c.in-Ok.ensures.low

pub slice_bounds-number_spelt-start : goal.slice_bounds-number_spelt-start
slice_bounds-number_spelt-start c = c.in-Ok.ensures.low

pub slice_bounds-number_spelt-end : goal.slice_bounds-number_spelt-end
slice_bounds-number_spelt-end c = c.in-Ok.ensures.high

pub put_number-requires : goal.put_number-requires
put_number-requires c = (
  record { room = omega (arith, c.if-run-at-lt2.false, c.requires.room); bounded = c.requires.bounded },
  plain_bound c.in-Ok.ensures c.number_spelt.ensures c.in_ok-n.was,
)

pub returns : goal.returns
returns c =
    plain_taken c.in-Ok.ensures c.number_spelt.ensures c.in_ok-n.was
    c.put_number.ensures
