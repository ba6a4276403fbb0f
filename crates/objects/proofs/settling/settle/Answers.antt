-- What does not lie in turn is copied behind all parts in turn, and from there to its place.
use Rattle.objects.proofs.Laws.Settling.{settled_put}
use Rattle.objects.proofs.settling.settle.Goals as goal

pub returns : goal.returns
returns c =
    settled_put c.requires (c.settled-count.ensures c.args.run.now c.requires)
    c.in_ok-end.ensures c.moved.ensures
