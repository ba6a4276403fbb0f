-- The first inner value takes one of the levels left, so `left` falls at each call; the loop's place is always that
-- of an inner value owed.
use native.Mathlib.Omega.{arith}
use borrow.Author.Rules.{rules}
use Rattle.text.proofs.Laws.Values.{inner_more, inner_later, inner_closed, inner_stops}
use Rattle.text.proofs.scan.+value.Goals as goal

pub returns-in_err-m-in-Inner : goal.returns-in_err-m-in-Inner
returns-in_err-m-in-Inner t c =
    let stops = inner_stops c.loop-n.invariant c.in_ok-n-in-Inner.ensures c.in_err-m-in-Inner.ensures in
    search rules

pub loop-n-smaller : goal.loop-n-smaller
loop-n-smaller t c =
    let d = c.in_ok-n-in-Inner.ensures in
    let f = c.in_ok-m-in-Inner.ensures in
    omega (
      arith,
      inner_later c.loop-n.invariant d f c.in-Inner-2.is,
      (inner_more c.loop-n.invariant d f c.in-Inner-2.is).leads.high,
    )

pub loop-n-preserved : goal.loop-n-preserved
loop-n-preserved t c =
    inner_more c.loop-n.invariant c.in_ok-n-in-Inner.ensures c.in_ok-m-in-Inner.ensures c.in-Inner-2.is

pub returns-in-Closed : goal.returns-in-Closed
returns-in-Closed t c =
    inner_closed c.loop-n.invariant c.in_ok-n-in-Inner.ensures c.in_ok-m-in-Inner.ensures c.in-Closed.is
