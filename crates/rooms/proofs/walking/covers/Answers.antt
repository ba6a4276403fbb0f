-- By the row's mark: a text or a beginning is compared, and the entry itself covers all that it matches.
use mathlib.Core.Path.{refl, sym, ◌∙◌}
use native.Mathlib.Omega.{arith}
use Rattle.parts.proofs.Laws.Slots.{true_false}
use Rattle.candidates.proofs.Laws.Joining.{stands}
use Rattle.rooms.proofs.Laws.Already.{itself_covers, single_covers, under_covers}
use Rattle.rooms.proofs.walking.covers.Goals as goal

pub bounds-row-0 : goal.bounds-row-0
bounds-row-0 c = omega (arith, (stands c.requires).size)

pub bounds-row-1 : goal.bounds-row-1
bounds-row-1 c = omega (arith, (stands c.requires).size)

pub slice_bounds-begins-end : goal.slice_bounds-begins-end
slice_bounds-begins-end c =
    let row = stands c.requires in omega (arith, row.told, row.size)

pub returns-in-3 : goal.returns-in-3
returns-in-3 c =
    λ p ys m e. under_covers p ys _ _ c.in-3.is (sym c.begins.ensures ∙ e)

pub slice_bounds-same_text-end : goal.slice_bounds-same_text-end
slice_bounds-same_text-end c =
    let row = stands c.requires in omega (arith, row.told, row.size)

pub returns-in-2 : goal.returns-in-2
returns-in-2 c =
    λ p ys m e. single_covers p ys _ _ c.in-2.is (sym c.same_text.ensures ∙ e)

pub returns-in-1 : goal.returns-in-1
returns-in-1 c =
    λ p ys m e. itself_covers p ys _ _ (stands c.requires).size c.in-1.is m

pub returns-in_default : goal.returns-in_default
returns-in_default c = λ p ys m e. absurd (true_false e refl)
