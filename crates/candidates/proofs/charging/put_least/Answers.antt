-- By the entry's wildcards, and whether the text is legal.
use mathlib.Core.Path.{sym, ◌∙◌}
use Rattle.std.proofs.Common.{rules}
use Rattle.candidates.proofs.Laws.Counting.{star_part}
use Rattle.candidates.proofs.Laws.ChargingLeast.{least_none, least_legal, least_other, least_final}
use Rattle.candidates.proofs.charging.put_least.Goals as goal
use Rattle.candidates.proofs.charging.put_least.Goals.{in-Without-1, in_default+else-legal_text+in-Without-1}

pub slice_bounds-put_longest-end : goal.slice_bounds-put_longest-end
slice_bounds-put_longest-end c = star_part _ (sym c.in-FinalStar.ensures)

pub returns-in-Without : goal.returns-in-Without
returns-in-Without c =
    elim c.in-Without-1.branch [
      | in-Without-1 w ↦
          least_none _ _ _ (sym c.of.ensures ∙ (search rules)) c.put_mark-in-Without.ensures
      | in_default+else-legal_text+in-Without-1 w ↦
          least_none _ _ _ (sym c.of.ensures ∙ (search rules)) c.put_mark-in-Without.ensures
    ]

pub returns-in_default : goal.returns-in_default
returns-in_default c =
    least_legal _ _ _ (λ z. c.in_default.not-Without (c.of.ensures ∙ z))
    (sym c.legal_text.ensures ∙ c.if-legal_text.true) c.put_text.ensures

pub returns-in-FinalStar : goal.returns-in-FinalStar
returns-in-FinalStar c =
    least_final _ _ _ (λ z. c.in_default.not-Without (c.of.ensures ∙ z))
    (sym c.legal_text.ensures ∙ c.if-legal_text.false) (sym c.in-FinalStar.ensures) c.put_longest.ensures

pub returns-in-Others : goal.returns-in-Others
returns-in-Others c =
    least_other _ _ _ (λ z. c.in_default.not-Without (c.of.ensures ∙ z))
    (sym c.legal_text.ensures ∙ c.if-legal_text.false) (λ z. cc) c.put_mark.ensures
