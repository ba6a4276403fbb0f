-- A vendor's character or the colon.
use mathlib.Core.Path.{sym, ◌∙◌}
use Rattle.parts.proofs.Laws.Requests.Tests.{plain_vendor, plain_rest}
use Rattle.straight.proofs.forms.is_plain_char.Goals as goal

pub returns-then-is_vendor_char : goal.returns-then-is_vendor_char
returns-then-is_vendor_char c =
    c.if-is_vendor_char.true ∙ plain_vendor _ (sym c.is_vendor_char.ensures ∙ c.if-is_vendor_char.true)

pub returns-else-is_vendor_char : goal.returns-else-is_vendor_char
returns-else-is_vendor_char c = plain_rest _ (sym c.is_vendor_char.ensures ∙ c.if-is_vendor_char.false)
