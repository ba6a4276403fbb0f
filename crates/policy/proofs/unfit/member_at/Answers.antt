-- The member's value has room, and what is told of it is told of the first of whatever members stand there.
use mathlib.Core.Path.{refl, sym, subst}
use Prim.Native.Nat.{ℕ}
use native.Mathlib.Omega.{arith}
use Rattle.parts.specs.Unfit.{UnfitAs, unknown}
use Rattle.parts.proofs.Laws.Holding.{never}
use Rattle.policy.proofs.Laws.Unfit.{leader, value_holdable, member_bad}
use Rattle.parts.proofs.Laws.Slots.{turn_some, turn_none}
use Rattle.policy.proofs.unfit.member_at.Goals as goal

pub entry-m-requires : goal.entry-m-requires
entry-m-requires c = c.requires.0

pub returns-in_default : goal.returns-in_default
returns-in_default c = (refl, λ z. never z)

pub slice_bounds-which-count : goal.slice_bounds-which-count
slice_bounds-which-count c =
    omega (arith, (leader c.requires.0 c.entry-m.result (c.entry-m.ensures _ _ c.requires.0.is) c.in-Named.is).order)

pub slice_bounds-which-start : goal.slice_bounds-which-start
slice_bounds-which-start c =
    omega (arith, (leader c.requires.0 c.entry-m.result (c.entry-m.ensures _ _ c.requires.0.is) c.in-Named.is).order)

pub slice_bounds-which-end : goal.slice_bounds-which-end
slice_bounds-which-end c =
    omega (arith, (leader c.requires.0 c.entry-m.result (c.entry-m.ensures _ _ c.requires.0.is) c.in-Named.is).inside)

pub is_unfit-requires : goal.is_unfit-requires
is_unfit-requires c =
    value_holdable c.requires.0 c.entry-m.result (c.entry-m.ensures _ _ c.requires.0.is) c.in-Named.is c.requires.1.0 c.requires.1.1

pub returns-in-Some : goal.returns-in-Some
returns-in-Some c =
    let l = leader c.requires.0 c.entry-m.result (c.entry-m.ensures _ _ c.requires.0.is) c.in-Named.is in (
      c.is_unfit.ensures.0,
      λ z. member_bad c.requires.0 c.entry-m.result (c.entry-m.ensures _ _ c.requires.0.is) c.in-Named.is
          (subst (λ (k : ℕ). UnfitAs k l.head) (turn_some _ c.which.ensures c.in-Some.is).0 (c.is_unfit.ensures.1 z _ _ l.stands)),
    )

pub returns-in-None : goal.returns-in-None
returns-in-None c = (
  refl,
  λ z. member_bad c.requires.0 c.entry-m.result (c.entry-m.ensures _ _ c.requires.0.is) c.in-Named.is
      (unknown (sym (turn_none _ c.which.ensures c.in-None.is))),
)
