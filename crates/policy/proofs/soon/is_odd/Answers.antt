-- A hint: nothing is promised of it but that it reads within the text.
use Rattle.straight.specs.Marks.{all_bare}
use borrow.Author.Rules.{rules}
use Rattle.policy.proofs.soon.is_odd.Goals as goal

pub named-requires : goal.named-requires
unfolding all_bare
named-requires c = search rules
