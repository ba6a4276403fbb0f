-- The name is quoted, and its colon stands behind it.
use Rattle.straight.proofs.Laws.Marks.{unless_then}
use Rattle.straight.proofs.Laws.Reads.{quoted_inside}
use Rattle.straight.proofs.marks.named.Goals as goal

pub parted-requires : goal.parted-requires
parted-requires c = quoted_inside (c.quote.ensures.found _ c.in_ok-q.was)

pub returns : goal.returns
returns c =
    let stands = c.quote.ensures.found _ c.in_ok-q.was in
    unless_then (λ i p. record { past = c.in_ok-q.q; name = stands; colon = p }) c.parted.ensures
