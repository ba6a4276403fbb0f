-- Each operator's values are held in their own form.
use mathlib.Core.Path.{refl, sym, ap, ◌∙◌}
use mathlib.Core.Bool.{true, false}
use Rattle.syntax.specs.Policy.{text}
use Rattle.syntax.specs.Policy as P
use Rattle.syntax.specs.Forms.{symbols_of}
use Rattle.syntax.specs.Members.{then, characters_of}
use Rattle.syntax.specs.PolicyLayout.{as_text, as_number, number_of_json}
use Rattle.held.specs.Held.{held_text, held_number, held_value}
use Rattle.parts.proofs.Laws.Values.{equals_is, like_is, bound_is}
use Rattle.straight.proofs.Laws.Entries.{takes_as}
use Rattle.straight.proofs.entries.value.Goals as goal

pub returns-in-StringEquals : goal.returns-in-StringEquals
returns-in-StringEquals c =
    takes_as held_text held_value (λ u. then (characters_of u) (symbols_of false)) _ text (λ x. refl)
    (λ t x e. sym (equals_is t c.in-StringEquals.is) ∙ ap as_text e)
    c.args.s.now c.args.run.now _ c.args.v c.args.at
    c.escaped.result c.escaped.ensures

pub returns-in-StringLike : goal.returns-in-StringLike
returns-in-StringLike c =
    takes_as held_text held_value (λ u. then (characters_of u) (symbols_of true)) _ text (λ x. refl)
    (λ t x e. sym (like_is t c.in-StringLike.is) ∙ ap as_text e)
    c.args.s.now c.args.run.now _ c.args.v c.args.at
    c.escaped-in-StringLike.result c.escaped-in-StringLike.ensures

pub returns-in-NumericLessThanEquals : goal.returns-in-NumericLessThanEquals
returns-in-NumericLessThanEquals c =
    takes_as held_number held_value number_of_json _ P.number (λ x. refl)
    (λ t x e. sym (bound_is t c.in-NumericLessThanEquals.is) ∙ ap as_number e)
    c.args.s.now c.args.run.now _ c.args.v c.args.at
    c.number.result c.number.ensures
