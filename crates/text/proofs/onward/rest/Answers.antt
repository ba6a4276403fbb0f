-- Behind each inner value the same is owed as behind the one before.
use native.Mathlib.Omega.{arith}
use borrow.Author.Rules.{rules}
use mathlib.Core.List.{[], ◌∷◌}
use Rattle.text.specs.Machine.{ws, next}
use Rattle.text.proofs.Laws.Reading.{fall, fall_frame}
use Rattle.text.proofs.Laws.Onward.{rest_closed, rest_inner, rest_more, rest_less}
use Rattle.text.proofs.onward.rest.Goals as goal

pub value-requires : goal.value-requires
value-requires c = (rest_inner c.loop-m.invariant c.in_ok-m.ensures c.in-Inner.is).high

pub returns-in_err-i-in-Inner : goal.returns-in_err-i-in-Inner
returns-in_err-i-in-Inner c =
    let stops =
    fall (rest_inner c.loop-m.invariant c.in_ok-m.ensures c.in-Inner.is)
    (fall_frame (ws ∷ next c.args.shape c.args.left ∷ []) c.in_err-i-in-Inner.ensures) in
    search rules

pub loop-m-smaller : goal.loop-m-smaller
loop-m-smaller c =
    let d = c.in_ok-i-in-Inner.ensures in
    omega (arith, d.high, rest_less c.loop-m.invariant c.in_ok-m.ensures c.in-Inner.is d)

pub loop-m-preserved : goal.loop-m-preserved
loop-m-preserved c =
    rest_more c.loop-m.invariant c.in_ok-m.ensures c.in-Inner.is c.in_ok-i-in-Inner.ensures

pub returns-in-Closed : goal.returns-in-Closed
returns-in-Closed c = rest_closed c.loop-m.invariant c.in_ok-m.ensures c.in-Closed.is
