-- Each operator's values are held in their own form.
use Rattle.held.specs.Held.{held_value}
use Rattle.parts.proofs.Laws.Holding.{ends_alike}
use Rattle.parts.proofs.Laws.Values.{ends_text, ends_number, equals_is, like_is, bound_is}
use Rattle.parts.proofs.entries.hold_value.Goals as goal

pub returns-in-StringEquals : goal.returns-in-StringEquals
returns-in-StringEquals c =
    λ t e p. ends_alike held_value c.args.run.now
    _ c.args.at e
    c.hold_symbols.result _ _
    (equals_is t c.in-StringEquals.is)
    (ends_text c.args.run.now _
    c.args.at e _
    c.hold_symbols.result (c.hold_symbols.ensures t e p))

pub returns-in-StringLike : goal.returns-in-StringLike
returns-in-StringLike c =
    λ t e p. ends_alike held_value c.args.run.now
    _ c.args.at e
    c.hold_symbols-in-StringLike.result _ _
    (like_is t c.in-StringLike.is)
    (ends_text c.args.run.now _
    c.args.at e _
    c.hold_symbols-in-StringLike.result (c.hold_symbols-in-StringLike.ensures t e p))

pub returns-in-NumericLessThanEquals : goal.returns-in-NumericLessThanEquals
returns-in-NumericLessThanEquals c =
    λ t e p. ends_alike held_value c.args.run.now
    _ c.args.at e
    c.hold_number.result _ _
    (bound_is t c.in-NumericLessThanEquals.is)
    (ends_number c.args.run.now _
    c.args.at e _
    c.hold_number.result (c.hold_number.ensures t e p))
