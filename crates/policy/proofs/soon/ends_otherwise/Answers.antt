-- The word stands for itself.
use Rattle.straight.specs.Marks.{all_bare}
use borrow.Author.Rules.{rules}
use Rattle.policy.proofs.soon.ends_otherwise.Goals as goal

pub quote-requires : goal.quote-requires
unfolding all_bare
quote-requires c = search rules
