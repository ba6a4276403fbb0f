-- No escape passed is wrong.
use mathlib.Core.Path.{sym, ◌∙◌}
use Rattle.syntax.proofs.Laws.Symbols.{right_next, right_end}
use Rattle.syntax.proofs.symbols.escapes_right.Goals as goal

pub loop-i-preserved : goal.loop-i-preserved
loop-i-preserved c =
    c.loop-i.invariant ∙ right_next c.symbol_at.ensures
    c.in-Some.is

pub returns : goal.returns
returns c =
    sym (c.loop-i.invariant ∙ right_end c.args.wild c.args.cs.now c.loop-i.i c.loop-i-test.false)
