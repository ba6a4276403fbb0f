-- Each turn passes one empty row.
use native.Mathlib.Omega.{arith}
use Rattle.refined.proofs.Laws.KeepingTests.{seeking_start, seeking_next, seeking_found, seeking_none}
use Rattle.refined.proofs.finishing.has_some.Goals as goal

pub loop-i-init : goal.loop-i-init
loop-i-init c = seeking_start _ _ _

pub overflow_mul-j : goal.overflow_mul-j
overflow_mul-j c = omega (arith, c.requires, c.loop-i.invariant.place, c.loop-i-test.true)

pub offset_bounds-room-j : goal.offset_bounds-room-j
offset_bounds-room-j c = omega (arith, c.requires, c.loop-i.invariant.place, c.loop-i-test.true)

pub bounds-room-j : goal.bounds-room-j
bounds-room-j c =
    omega (arith, c.requires, c.loop-i.invariant.place, c.loop-i-test.true)

pub returns-then-room-j-ne-EMPTY : goal.returns-then-room-j-ne-EMPTY
returns-then-room-j-ne-EMPTY c =
    λ xs e. seeking_found c.loop-i.invariant xs e c.loop-i-test.true c.if-room-j-ne-EMPTY.true

pub overflow_add-j : goal.overflow_add-j
overflow_add-j c =
    omega (arith, c.requires, c.loop-i.invariant.place, c.loop-i-test.true)

pub loop-i-preserved : goal.loop-i-preserved
loop-i-preserved c =
    seeking_next c.loop-i.invariant c.loop-i-test.true c.if-room-j-ne-EMPTY.false

pub returns : goal.returns
returns c = λ xs e. seeking_none c.loop-i.invariant xs e c.loop-i-test.false
