-- Quotes stand around the word, which is a string's body since each of its bytes stands for itself.
use native.Mathlib.Omega.{arith}
use Rattle.straight.proofs.Laws.Marks.{unless_some, quoted_bare}
use Rattle.straight.proofs.marks.quote.Goals as goal

pub returns : goal.returns
returns c =
    unless_some
    (quoted_bare c.requires
    (record { inside = omega (arith, c.if-left-w.false); is = c.if-s-at-ne34.false })
    (record { inside = omega (arith, c.if-left-w.false, c.if-left-w-lt2.false); is = omega arith })
    (c.spells.ensures c.if-not-spells.false))
