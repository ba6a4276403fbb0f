-- A plain byte is its own character.
use Rattle.chars.proofs.Laws.Strings.Runs.{reads_plain}
use Rattle.chars.proofs.strings.char_at.Goals as goal

pub returns-then-plain : goal.returns-then-plain
returns-then-plain c = rw c.from.ensures (reads_plain c.requires (c.plain.ensures c.if-plain.true))
