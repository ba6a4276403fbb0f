-- Vendor and name first, then wildcards, then the length.
use mathlib.Core.Path.{sym, ◌∙◌}
use Rattle.parts.proofs.Laws.Requests.Tests.{action_short}
use Rattle.straight.proofs.forms.is_action_name.Goals.{then-is_vendor, else-is_vendor}
use Rattle.straight.proofs.forms.is_action_name.Goals as goal

pub returns-then-is_plain : goal.returns-then-is_plain
returns-then-is_plain c =
    elim c.if-is_vendor.branch [
      | then-is_vendor w ↦
          action_short _ (sym c.is_vendor.ensures ∙ w.if-is_vendor.true)
          (sym w.is_plain.ensures ∙ sym w.value-is ∙ c.if-is_plain.true)
      | else-is_vendor w ↦ absurd (cc (w.value-is, c.if-is_plain.true))
    ]
