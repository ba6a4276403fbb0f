-- What passes every test is no quote and no bracket.
use Rattle.text.proofs.Laws.Skipping.Walking.{idle_plain}
use Rattle.text.proofs.walk.idle.Goals as goal

pub returns : goal.returns
returns c h = idle_plain _ h
