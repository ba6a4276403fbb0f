-- What is no dollar with a brace behind it says itself.
use Rattle.syntax.proofs.Laws.Symbols.{says_plain, says_dollar}
use mathlib.Core.Path.{◌∙◌}
use Rattle.syntax.proofs.symbols.symbol_at.Goals.{else-c-eq-DOLLAR-via-then-c-eq-DOLLAR+else-character-eq-OPENING}
use Rattle.syntax.proofs.symbols.symbol_at.Goals.{else-c-eq-DOLLAR-via-else-c-eq-DOLLAR}
use Rattle.syntax.proofs.symbols.symbol_at.Goals as goal

pub returns : goal.returns
returns c =
    elim c.else-c-eq-DOLLAR.branch [
      | else-c-eq-DOLLAR-via-then-c-eq-DOLLAR+else-character-eq-OPENING w ↦
          says_dollar c.args.wild c.args.cs.now c.args.i c.requires
          (λ e. w.if-character-eq-OPENING.false (w.character.ensures ∙ e)) c.symbol.ensures
      | else-c-eq-DOLLAR-via-else-c-eq-DOLLAR w ↦
          says_plain c.args.wild c.args.cs.now c.args.i c.requires w.if-c-eq-DOLLAR.false c.symbol.ensures
    ]
