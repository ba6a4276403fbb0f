-- The key's length tells where the value lies, the type how long that is.
use Rattle.held.proofs.Laws.Requests.Lying.{context_named, context_inside, value_inside, context_number, context_text}
use Rattle.straight.proofs.keys.past_context.Goals as goal

pub bounds-run-at : goal.bounds-run-at
bounds-run-at c = (context_named c.requires.thing c.requires.lies).inside

pub bounds-run-at-2 : goal.bounds-run-at-2
bounds-run-at-2 c = context_inside c.requires.thing c.requires.lies

pub returns-then-run-at-eq2 : goal.returns-then-run-at-eq2
returns-then-run-at-eq2 c = λ x l. (context_number x l c.if-run-at-eq2.true).1

pub bounds-run-v : goal.bounds-run-v
bounds-run-v c =
    value_inside c.requires.thing c.requires.lies

pub returns : goal.returns
returns c = λ x l. (context_text x l c.if-run-at-eq2.false).1
