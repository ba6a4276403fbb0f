-- Nothing in one of them; one single text in both; else what both share, if the entry has a final star alone.
use mathlib.Core.Path.{sym, ◌∙◌}
use native.Mathlib.Omega.{arith}
use Rattle.candidates.proofs.Laws.Counting.{star_part, not_final}
use Rattle.candidates.proofs.Laws.Joining.{standing, stands}
use Rattle.candidates.proofs.Laws.JoiningWild.{nothing_second, nothing_first, one_joined, joined_other, joined_final}
use Rattle.candidates.proofs.joining.join_wild.Goals as goal

pub bounds-other-0 : goal.bounds-other-0
bounds-other-0 c = omega (arith, (stands c.requires.1).size)

pub returns-then-other-eq-EMPTY : goal.returns-then-other-eq-EMPTY
returns-then-other-eq-EMPTY c =
    λ x y tx ty f g. nothing_second _ _ x y ty (standing y ty g) (omega arith) f

pub bounds-out-0 : goal.bounds-out-0
bounds-out-0 c = omega (arith, (stands c.requires.0).size)

pub copy-requires : goal.copy-requires
copy-requires c = (stands c.requires.1).size ∙ sym (stands c.requires.0).size

pub returns-then-out-eq-EMPTY : goal.returns-then-out-eq-EMPTY
returns-then-out-eq-EMPTY c =
    λ x y tx ty f g. nothing_first _ _ x y tx (standing x tx f) c.if-out-eq-EMPTY.true
    (c.copy.ensures ∙ g)

pub returns-then-is_one_text : goal.returns-then-is_one_text
returns-then-is_one_text c =
    λ x y tx ty f g. one_joined _ _ x y tx ty f g (standing x tx f)
    (sym c.is_one_text.ensures ∙ c.if-is_one_text.true)

pub slice_bounds-put_shared-end : goal.slice_bounds-put_shared-end
slice_bounds-put_shared-end c = star_part _ (sym c.in-FinalStar.ensures)

pub put_mark-requires : goal.put_mark-requires
put_mark-requires c = (stands c.requires.0).size

pub returns-in-FinalStar : goal.returns-in-FinalStar
returns-in-FinalStar c =
    λ x y tx ty f g. joined_final _ _ x y tx ty f g (standing x tx f) (standing y ty g) c.if-out-eq-EMPTY.false
    (λ z. omega arith) (sym c.is_one_text.ensures ∙ c.if-is_one_text.false)
    (sym c.in-FinalStar.ensures) (c.put_shared.ensures x y tx ty f g)

pub returns-in-Without : goal.returns-in-Without
returns-in-Without c =
    λ x y tx ty f g. joined_other _ _ x y tx ty f g (standing x tx f) (standing y ty g) c.if-out-eq-EMPTY.false
    (λ z. omega arith) (sym c.is_one_text.ensures ∙ c.if-is_one_text.false)
    (λ z. not_final c.in-Without.is (c.of.ensures ∙ z)) c.put_mark.ensures
