-- What was gathered from the first name on is the whole object; its parts are then put in order.
use native.Mathlib.Omega.{arith}
use Rattle.straight.proofs.Laws.Reads.{opened_inside}
use Rattle.objects.proofs.Laws.Contexts.{contexts_proper, context_sorted, context_taken}
use Rattle.objects.proofs.contexts.context.Goals as goal

pub gathered-requires : goal.gathered-requires
gathered-requires c = (
  contexts_proper,
  (
    opened_inside (c.opened.ensures.found _ c.in_ok-i.was),
    record { room = omega (arith, c.if-run-at.false); bounded = c.requires.bounded },
  ),
)

pub arranged-requires : goal.arranged-requires
arranged-requires c = record { slots = _; sorted = context_sorted c.args.at c.requires.bounded c.in-Ok.ensures }

pub returns : goal.returns
returns c =
    context_taken c.args.at c.requires.bounded c.in-Ok.ensures (c.opened.ensures.found _ c.in_ok-i.was)
    (c.in_ok-past.ensures _ (context_sorted c.args.at c.requires.bounded c.in-Ok.ensures))
