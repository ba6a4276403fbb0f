-- The object opens, and its first member is named.
use Rattle.straight.proofs.Laws.Marks.{unless_then}
use Rattle.straight.proofs.marks.first.Goals as goal

pub returns : goal.returns
returns c =
    let stands = c.opened.ensures.found _ c.in_ok-i.was in
    unless_then (λ i p. record { place = c.in_ok-i.i; opened = stands; named = p }) c.named.ensures
