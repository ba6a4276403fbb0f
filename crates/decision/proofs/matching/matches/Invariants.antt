-- Each look keeps what the places tell of the whole match, and leaves less to do.
use Rattle.decision.proofs.Laws.MatchingPlaces.{Tracks, left}
use Rattle.decision.proofs.matching.matches.Given as goal

abbrev pub invariant-loop-to : goal.invariant-loop-to
invariant-loop-to l =
    Tracks l.entry l.text l.at

abbrev pub decreases-loop-to : goal.decreases-loop-to
decreases-loop-to l =
    left l.entry l.text l.at
