-- An escape, ASCII, or a sequence.
use native.Mathlib.Omega.{arith}
use mathlib.Core.Path.{◌∙◌}
use Rattle.chars.proofs.Laws.Strings.Reading.{read_letter, read_sequence, sequence_one, text_plain}
use Rattle.chars.proofs.strings.first.Goals as goal

pub returns-else-b-eq117 : goal.returns-else-b-eq117
returns-else-b-eq117 c =
    rw (c.from.ensures, c.letter.ensures, c.byte_at-b.ensures)
    (text_plain _ c.requires (read_letter _ c.in-92.is (λ e. c.if-b-eq117.false (c.byte_at-b.ensures ∙ e))))

pub returns-in-0-to-127 : goal.returns-in-0-to-127
returns-in-0-to-127 c =
    rw c.from-in-0-to-127.ensures
    (text_plain _ c.requires (read_sequence _ (λ e. omega arith) ∙ sequence_one _ _ (omega arith)))
