-- None of the entries passed meets the value; whichever entries lie in the list are the ones tried.
use Rattle.held.specs.Held.{held_value, held_list, any_of}
use Rattle.held.specs.Lying.{Lying}
use Rattle.decision.specs.Decision.{meets}
use Rattle.held.specs.Places.{Operating}
use Rattle.held.proofs.Laws.Coming.{Coming}
use Rattle.decision.proofs.deciding.some_meets.Given as goal

abbrev pub invariant-loop : goal.invariant-loop
invariant-loop turn =
    (o : Operating turn.operator) (l : Lying (held_list held_value) turn.policy turn.at) (y : Lying held_value turn.request turn.v)
    → Coming held_value turn.policy turn.n turn.counter turn.e (any_of (λ x. meets o.operator x y.thing))
    (any_of (λ x. meets o.operator x y.thing) l.thing)
