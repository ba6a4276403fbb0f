-- The line ends before the first LF or with the text.
use Rattle.chars.proofs.Laws.Lines.Found.{line_over, line_lf, line_last}
use Rattle.chars.proofs.lines.line_at.Goals as goal

pub returns-then-s-at : goal.returns-then-s-at
returns-then-s-at c = line_over _ _ c.if-s-at.true

pub returns-then-end-s : goal.returns-then-end-s
returns-then-end-s c = line_lf _ _ _ c.if-s-at.false c.line_end-end.ensures c.if-end-s.true

pub returns-else-end-s : goal.returns-else-end-s
returns-else-end-s c = line_last _ _ _ c.if-s-at.false c.line_end-end.ensures c.if-end-s.false
