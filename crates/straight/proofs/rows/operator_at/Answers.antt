-- Each operator's word in turn: the name that stands there is the one that is found.
use Rattle.straight.specs.Marks.{all_bare}
use borrow.Author.Rules.{rules}
use Rattle.straight.proofs.rows.operator_at.Goals as goal

pub named-requires : goal.named-requires
unfolding all_bare
named-requires c = search rules

pub named-requires-2 : goal.named-requires-2
unfolding all_bare
named-requires-2 c = search rules

pub named-requires-3 : goal.named-requires-3
unfolding all_bare
named-requires-3 c = search rules
