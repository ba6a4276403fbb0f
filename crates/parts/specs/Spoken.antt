-- Spoken: what the answers of `words` say, in the words of the layout.
use Rattle.std.specs.Prelude.{Option, Some, None}
use Rattle.syntax.specs.Policy as P
use Rattle.syntax.specs.Forms.{Reading, wrong, read}
use Rattle.parts.specs.declared.words.Effect.{Effect}
use Rattle.parts.specs.declared.words.Effect.TheVariants as E
use Rattle.parts.specs.declared.words.Operator.{Operator}
use Rattle.parts.specs.declared.words.Operator.TheVariants as O

abbrev pub effect_is : Effect → P.Effect
effect_is E.Allow = P.Allow
effect_is E.Deny = P.Deny

abbrev pub told_effect : Option Effect → Reading P.Effect
told_effect (Some e) = read (effect_is e)
told_effect None = wrong

abbrev pub operator_is : Operator → P.Operator
operator_is O.StringEquals = P.StringEquals
operator_is O.StringLike = P.StringLike
operator_is O.NumericLessThanEquals = P.NumericLessThanEquals

abbrev pub told_operator : Option Operator → Reading P.Operator
told_operator (Some o) = read (operator_is o)
told_operator None = wrong
