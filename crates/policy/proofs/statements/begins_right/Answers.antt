-- The first member is no Version, or is the edition, or nothing is made of the object.
use mathlib.Core.Path.{sym}
use native.Mathlib.Omega.{arith}
use Rattle.parts.proofs.Laws.Holding.{never}
use Rattle.policy.proofs.Laws.Framed.{first, first_standing, first_other}
use Rattle.parts.proofs.Laws.Slots.{turn_some}
use Rattle.policy.proofs.statements.begins_right.Goals as goal

pub first_member-m-requires : goal.first_member-m-requires
first_member-m-requires c = c.requires

pub returns-in_default : goal.returns-in_default
returns-in_default c = λ z. never (sym z)

pub slice_bounds-which-count : goal.slice_bounds-which-count
slice_bounds-which-count c =
    omega (arith, (first c.requires.is (c.first_member-m.ensures _ _ c.requires.is) _ _ _ c.in-Named.is).order)

pub slice_bounds-which-start : goal.slice_bounds-which-start
slice_bounds-which-start c =
    omega (arith, (first c.requires.is (c.first_member-m.ensures _ _ c.requires.is) _ _ _ c.in-Named.is).order)

pub slice_bounds-which-end : goal.slice_bounds-which-end
slice_bounds-which-end c =
    omega (arith, (first c.requires.is (c.first_member-m.ensures _ _ c.requires.is) _ _ _ c.in-Named.is).inside)

pub is_edition-requires : goal.is_edition-requires
is_edition-requires c =
    first_standing c.requires.is (c.first_member-m.ensures _ _ c.requires.is) _ _ _ c.in-Named.is

pub returns : goal.returns
returns c =
    λ z ms e p.
    first_other p (c.first_member-m.ensures ms e p) _ _ _ c.in-Named.is c.in-Some.turn
    (turn_some _ c.which.ensures c.in-Some.is).0 (omega arith) c.is_edition.result c.is_edition.ensures z
