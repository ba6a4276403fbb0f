-- One row of sequence_of for each length.
use Rattle.chars.proofs.Laws.Strings.Reading.{sequence_two, sequence_three, sequence_four}
use Rattle.chars.proofs.Laws.Strings.Steps.{leading_text}
use Rattle.chars.proofs.strings.sequence.Goals as goal

pub returns-then-a-lt224 : goal.returns-then-a-lt224
returns-then-a-lt224 c =
    rw c.six-p.ensures (leading_text c.requires (sequence_two _ _ c.requires.high c.if-a-lt224.true))

pub returns-then-a-lt240 : goal.returns-then-a-lt240
returns-then-a-lt240 c =
    rw (c.six-p.ensures, c.six-q.ensures)
    (leading_text c.requires (sequence_three _ _ c.if-a-lt224.false c.if-a-lt240.true))

pub returns : goal.returns
returns c =
    rw (c.six-p.ensures, c.six-q.ensures, c.six-r.ensures)
    (leading_text c.requires (sequence_four _ _ c.if-a-lt240.false))
