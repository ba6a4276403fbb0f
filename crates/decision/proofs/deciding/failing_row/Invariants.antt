-- Each row passed holds; whichever rows lie in the list are the ones tried.
use Prim.Native.Nat.{◌+◌}
use Rattle.held.specs.Held.{held_row, held_list, held_context}
use Rattle.held.specs.Lying.{Lying}
use Rattle.decision.specs.Decision.{rows_from}
use Rattle.held.proofs.Laws.Coming.{Coming}
use Rattle.decision.proofs.deciding.failing_row.Given as goal

abbrev pub invariant-loop-i : goal.invariant-loop-i
invariant-loop-i turn =
    (l : Lying (held_list held_row) turn.policy turn.at) (cs : Lying (held_list held_context) turn.request turn.contexts)
    → Coming held_row turn.policy turn.n turn.i turn.p (λ rs. rows_from (turn.i + 1) rs cs.thing) (rows_from 1 l.thing cs.thing)
