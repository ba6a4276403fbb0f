-- What was gathered from the first name on is the whole object; its parts are then put in order.
use Rattle.straight.proofs.Laws.Reads.{opened_inside}
use Rattle.straight.proofs.Laws.Taking.{run_roomy}
use Rattle.objects.proofs.Laws.Records.{records_proper, request_sorted, request_taken}
use Rattle.objects.proofs.records.request.Goals as goal

pub gathered-requires : goal.gathered-requires
gathered-requires c = (records_proper, (opened_inside (c.opened.ensures.found _ c.in_ok-i.was), run_roomy c.requires))

pub arranged-requires : goal.arranged-requires
arranged-requires c = record { slots = _; sorted = request_sorted c.in-Ok.ensures }

pub returns : goal.returns
returns c =
    request_taken c.in-Ok.ensures (c.opened.ensures.found _ c.in_ok-i.was)
    (c.in_ok-past.ensures _ (request_sorted c.in-Ok.ensures))
