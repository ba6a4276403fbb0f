-- Either name may come first.
use Rattle.straight.specs.Marks.{all_bare}
use borrow.Author.Rules.{rules}
use Rattle.objects.proofs.policies.object.Goals as goal

pub first-requires : goal.first-requires
unfolding all_bare
first-requires c = search rules
