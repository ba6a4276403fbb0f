-- Characters, length and form, one behind the other.
use mathlib.Core.Path.{sym, ◌∙◌}
use mathlib.Core.Logic.{inl, inr}
use Rattle.std.proofs.Common.{rules}
use Rattle.candidates.proofs.Laws.Chains.{refused}
use Rattle.candidates.proofs.Laws.Forming.{text_not_plain, text_long, text_formed}
use Rattle.candidates.proofs.legality.legal_text.Goals as goal

pub returns-then-t-le-ENTRY : goal.returns-then-t-le-ENTRY
returns-then-t-le-ENTRY c =
    c.has_form.ensures
    ∙ text_formed _ _ (sym c.all_plain.ensures ∙ c.if-t-le-ENTRY.true.0) c.if-t-le-ENTRY.true.1

pub returns-else-t-le-ENTRY : goal.returns-else-t-le-ENTRY
returns-else-t-le-ENTRY c =
    refused (search rules) (elim c.if-t-le-ENTRY.either [
      | inl w ↦ text_long _ _ w.1
      | inr w ↦ text_not_plain _ _ (sym c.all_plain.ensures ∙ w)
    ])
