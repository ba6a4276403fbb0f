-- The parts are settled behind the place of the type, whose number is put last.
use Rattle.objects.proofs.Laws.Contexts.{arranged_texting, arranged_spanned, arranged_laid}
use Rattle.objects.proofs.contexts.arranged.Goals as goal

pub typed-requires : goal.typed-requires
typed-requires c =
    arranged_texting c.requires.sorted c.if-spans-eq0.false c.if-spans-eq0-2.false
    c.if-spans-eq0-3.false

pub settle-requires : goal.settle-requires
settle-requires c =
    arranged_spanned c.requires.sorted c.if-spans-eq0.false c.if-spans-eq0-2.false
    c.if-spans-eq0-3.false c.type_of-kind.ensures c.in_ok-all.ensures

pub returns : goal.returns
returns c =
    λ x w. arranged_laid w c.if-spans-eq0.false c.if-spans-eq0-2.false
    c.if-spans-eq0-3.false c.type_of-kind.ensures c.in_ok-all.ensures c.number.ensures c.in_ok-past.ensures
