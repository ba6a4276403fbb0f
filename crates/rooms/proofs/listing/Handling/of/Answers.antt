-- By the effect, the operator, and the mark of a number.
use mathlib.Core.Path.{◌≡◌, sym, ap, ◌∙◌}
use native.Mathlib.Omega.{arith}
use Rattle.syntax.specs.Policy.{StringLike, NumericLessThanEquals}
use Rattle.candidates.specs.Entries.{comparison}
use Rattle.rooms.proofs.Laws.Listing.{handled_number, handled_unlike}
use Rattle.rooms.proofs.listing.Handling.of.Goals as goal

pub returns-then-is_number : goal.returns-then-is_number
returns-then-is_number c =
    λ s a b l.
    let k : comparison s.place ≡ StringLike = ap comparison (sym b) ∙ sym c.in-StringLike.ensures in
    handled_unlike s a c.if-effect-ne1.false l k (omega arith)

pub returns-then-is_number-2 : goal.returns-then-is_number-2
returns-then-is_number-2 c =
    λ s a b l.
    let k : comparison s.place ≡ NumericLessThanEquals =
    ap comparison (sym b) ∙ sym c.in-NumericLessThanEquals.ensures in
    handled_number s a c.if-effect-ne1.false l k (omega arith)
