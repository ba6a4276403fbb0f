-- What is absent is put behind the parts, and then all of them in order.
use Rattle.objects.proofs.Laws.Records.{arranged_spanned, request_settled}
use Rattle.objects.proofs.records.arranged.Goals as goal

pub settle-requires : goal.settle-requires
settle-requires c =
    arranged_spanned c.requires.sorted c.if-spans-eq0.false c.in_ok-some.ensures c.in_ok-all.ensures

pub returns : goal.returns
returns c = λ x w. request_settled w c.if-spans-eq0.false c.in_ok-some.ensures c.in_ok-all.ensures c.settle.new.run c.settle.result c.settle.ensures
