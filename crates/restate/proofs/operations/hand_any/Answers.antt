-- The sink shows the written form in the end, or that it was too much.
use Rattle.restate.proofs.Laws.Handing.{shows_taken}
use Rattle.restate.proofs.operations.hand_any.Goals as goal

pub returns : goal.returns
returns c = λ x l. c.deliver.ensures _ (shows_taken c.new-sink.ensures.2 (c.put_policy.ensures x l))
