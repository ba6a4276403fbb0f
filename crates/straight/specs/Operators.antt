-- Operators of a condition by their words.
--   word_of o              an operator's word
--   NamesOperator s i r   from i on, a member's name, an operator's word, and its colon
use Rattle.std.specs.Prelude.{List, ℕ, Option, Some, None}
use Rattle.syntax.specs.Policy.{Operator, StringEquals, StringLike, NumericLessThanEquals}
use Rattle.syntax.specs.Words.{string_equals_word, string_like_word, numeric_less_than_equals_word}
use Rattle.parts.specs.Spoken.{operator_is}
use Rattle.straight.specs.declared.rows.Operated.{Operated}
use Rattle.straight.specs.Marks.{Named}

abbrev pub word_of : Operator → List ℕ
word_of StringEquals = string_equals_word
word_of StringLike = string_like_word
word_of NumericLessThanEquals = numeric_less_than_equals_word

abbrev pub NamesOperator : List ℕ → ℕ → Option Operated → Type 0
NamesOperator s i (Some r) = Named s (word_of (operator_is r.operator)) i r.value
NamesOperator s i None = Unit {0}
