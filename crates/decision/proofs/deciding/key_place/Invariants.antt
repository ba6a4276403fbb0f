-- None of the context entries passed has the key; whichever entries lie in the list are the ones compared.
use Prim.Native.Nat.{◌<◌}
use Rattle.held.specs.Held.{held_text, held_list, held_context}
use Rattle.held.specs.Lying.{Lying}
use Rattle.decision.specs.Decision.{value_at}
use Rattle.held.proofs.Laws.Coming.{Coming}
use Rattle.decision.proofs.deciding.key_place.Given as goal

abbrev pub invariant-loop : goal.invariant-loop
invariant-loop turn =
    (0 < turn.c) × ((x : Lying held_text turn.policy turn.k) (l : Lying (held_list held_context) turn.request turn.at)
    → Coming held_context turn.request turn.n turn.counter turn.c (value_at x.thing) (value_at x.thing l.thing))
