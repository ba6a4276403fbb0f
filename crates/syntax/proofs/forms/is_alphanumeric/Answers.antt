-- Three ranges, each tested from both sides.
use Rattle.syntax.proofs.Laws.Characters.{alphanumeric_tests}
use Rattle.syntax.proofs.forms.is_alphanumeric.Goals as goal

pub returns : goal.returns
returns c = alphanumeric_tests c.args.c
