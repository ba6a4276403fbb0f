-- Each look keeps what the places tell of the whole match, and leaves less to do.
use mathlib.Core.Path.{sym, ◌∙◌}
use Rattle.decision.proofs.Laws.MatchingPlaces.{tracks_inside}
use Rattle.decision.proofs.Laws.MatchingSteps.{next_tracks, next_less, next_answer, tracks_alike}
use Rattle.decision.proofs.matching.matches.Goals as goal

pub loop-to-init : goal.loop-to-init
loop-to-init c = tracks_alike _ _ _ c.alike-same.ensures

pub step-requires : goal.step-requires
step-requires c = tracks_inside _ _ _ c.loop-to.invariant

pub loop-to-smaller : goal.loop-to-smaller
loop-to-smaller c = next_less _ _ _ c.loop-to.invariant (sym c.step.ensures ∙ c.in-Continue.is)

pub loop-to-preserved : goal.loop-to-preserved
loop-to-preserved c = next_tracks _ _ _ c.loop-to.invariant (sym c.step.ensures ∙ c.in-Continue.is)

pub returns-in-Break : goal.returns-in-Break
returns-in-Break c = next_answer _ _ _ c.loop-to.invariant (sym c.step.ensures ∙ c.in-Break.is)
