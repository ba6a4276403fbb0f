-- Both words stand for themselves.
use Rattle.straight.specs.Marks.{all_bare}
use borrow.Author.Rules.{rules}
use Rattle.policy.proofs.soon.is_other_edition.Goals as goal

pub named-requires : goal.named-requires
unfolding all_bare
named-requires c = search rules

pub quote-requires : goal.quote-requires
unfolding all_bare
quote-requires c = search rules
