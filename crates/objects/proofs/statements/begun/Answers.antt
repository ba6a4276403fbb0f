-- The name of the first member tells the two.
use Rattle.straight.specs.Marks.{all_bare}
use borrow.Author.Rules.{rules}
use Rattle.objects.proofs.statements.begun.Goals as goal

pub named-requires : goal.named-requires
unfolding all_bare
named-requires c = search rules
