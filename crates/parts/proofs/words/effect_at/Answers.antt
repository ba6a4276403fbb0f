-- The two words are tried in their turn.
use mathlib.Core.Path.{sym, ap, ◌∙◌}
use Rattle.parts.specs.Spoken.{told_effect}
use Rattle.parts.proofs.Laws.Spoken.{effect_allow, effect_rest}
use Rattle.parts.proofs.words.effect_at.Goals as goal

pub returns-then-is_word : goal.returns-then-is_word
returns-then-is_word c = λ t e p. sym (effect_allow t (sym (c.is_word.ensures t e p) ∙ c.if-is_word.true))

pub returns : goal.returns
returns c =
    λ t e p. ap told_effect c.then_some.ensures
    ∙ effect_rest t (sym (c.is_word.ensures t e p) ∙ c.if-is_word.false) _ (c.is_word-2.ensures t e p)
