-- The brace behind and the character between decide.
use Rattle.syntax.proofs.Laws.Symbols.{says_unclosed, says_unknown, says_escape}
use Rattle.chars.proofs.Laws.Tests.{among, outside}
use mathlib.Core.List.{[], ◌∷◌}
use Rattle.chars.specs.Base.{one_of}
use mathlib.Core.Path.{ap, sym, ◌∙◌}
use Rattle.syntax.proofs.symbols.escape_at.Goals as goal

pub returns-then-character-ne-CLOSING : goal.returns-then-character-ne-CLOSING
returns-then-character-ne-CLOSING c =
    says_unclosed c.args.wild c.args.cs.now c.args.i c.requires (λ e. c.if-character-ne-CLOSING.true (c.character.ensures ∙ e))

pub returns-in-36 : goal.returns-in-36
returns-in-36 c =
    says_escape c.args.wild c.args.cs.now c.args.i c.requires
    (sym c.character.ensures ∙ c.if-character-ne-CLOSING.false)
    c.character-c.ensures (among (36 ∷ 42 ∷ 63 ∷ []) _ c.in-36.is)

pub returns-in_default : goal.returns-in_default
returns-in_default c =
    says_unknown c.args.wild c.args.cs.now c.args.i c.requires (ap (one_of (36 ∷ 42 ∷ 63 ∷ []))
    (sym c.character-c.ensures) ∙ outside (36 ∷ 42 ∷ 63 ∷ []) _ c.in_default.in_default-own.rest.1)
