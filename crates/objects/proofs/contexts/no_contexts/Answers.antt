-- The two brackets with white space between them are an empty list.
use Rattle.straight.proofs.Laws.Reads.{opened_inside, list_none}
use Rattle.straight.proofs.Laws.Marks.{unless_then}
use Rattle.objects.proofs.contexts.no_contexts.Goals as goal

pub closed-requires : goal.closed-requires
closed-requires c = opened_inside (c.opened.ensures.found _ c.in_ok-i.was)

pub returns : goal.returns
returns c = unless_then (λ e p. list_none (c.opened.ensures.found _ c.in_ok-i.was) p) c.closed.ensures
