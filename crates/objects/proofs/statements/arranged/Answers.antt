-- The parts are settled behind the place of the effect, whose number is put last.
use native.Mathlib.Omega.{arith}
use Rattle.objects.proofs.Laws.Statements.{arranged_spanned, effect_small, arranged_laid}
use Rattle.objects.proofs.statements.arranged.Goals as goal

pub settle-requires : goal.settle-requires
settle-requires c =
    arranged_spanned c.requires.sorted c.if-spans-eq0.false
    c.if-spans-eq0-2.false c.if-spans-eq0-3.false c.if-spans-eq0-4.false c.in_ok-all.ensures

pub overflow_cast-run : goal.overflow_cast-run
overflow_cast-run c =
    let e = effect_small c.requires.sorted c.if-spans-eq0.false
    c.if-spans-eq0-2.false c.if-spans-eq0-3.false c.if-spans-eq0-4.false in
    omega (arith, e)

pub returns : goal.returns
returns c =
    λ x w. arranged_laid w c.if-spans-eq0.false c.if-spans-eq0-2.false
    c.if-spans-eq0-3.false c.if-spans-eq0-4.false c.in_ok-all.ensures c.in_ok-past.ensures
