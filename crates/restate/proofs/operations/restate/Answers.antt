-- The policy is refused at once; else it is read, in a run that is long enough.
use Rattle.decide.proofs.Laws.Operations.{handed_on}
use Rattle.restate.specs.Operations.{policy_refused}
use Rattle.restate.proofs.operations.restate.Goals as goal

pub returns-in_err-soon : goal.returns-in_err-soon
returns-in_err-soon c = rw (handed_on _ c.from_residual.ensures.1) (policy_refused c.in_err-soon.ensures)
