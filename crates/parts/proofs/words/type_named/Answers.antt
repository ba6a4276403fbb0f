-- The two words are tried in their turn.
use mathlib.Core.Path.{sym, ◌∙◌}
use Rattle.parts.proofs.Laws.Spoken.{raw_text, raw_number, raw_none}
use Rattle.parts.proofs.words.type_named.Goals as goal

pub returns-then-same : goal.returns-then-same
returns-then-same c = sym (raw_text _ (sym c.same.ensures ∙ c.if-same.true))

pub returns-then-same-2 : goal.returns-then-same-2
returns-then-same-2 c = sym (raw_number _ (sym c.same.ensures ∙ c.if-same.false) (sym c.same-2.ensures ∙ c.if-same-2.true))

pub returns : goal.returns
returns c = sym (raw_none _ (sym c.same.ensures ∙ c.if-same.false) (sym c.same-2.ensures ∙ c.if-same-2.false))
