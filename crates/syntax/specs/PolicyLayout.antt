-- The policy layout: document 01, "Policy layout", from the tree that a text says to the policy that it is, or `wrong`.
--   policy_of t      Version and Statement, one object or a list of at least one; no two Sids equal
--   statement_of t   Effect, Action, Resource, and if they are there Sid and Condition
--   condition_of t   operators, each with keys, each with one value or a list: the rows as they stand
-- Limits are no part of it (Limits).  Differs from 01: nowhere.
use Rattle.std.specs.Prelude.{Bool, true, false, List, [], ◌∷◌, ◌++◌, map, ℕ, ltb, length}
use Rattle.chars.specs.Base.{pick}
use Rattle.text.specs.Json.{Json, null, bool, number, string, list, object, Members, no_members, named}
use Rattle.chars.specs.Decoding.{text_of, same_text}
use Rattle.syntax.specs.Policy.{Effect, Allow, Deny, Operator, StringEquals, StringLike, NumericLessThanEquals}
use Rattle.syntax.specs.Policy.{Value, text, Row, Statement, Policy}
use Rattle.syntax.specs.Policy as P
use Rattle.syntax.specs.Forms.{Reading, wrong, read, both, same, is_action, wildcard, is_resource, is_sid}
use Rattle.syntax.specs.Forms.{is_key, symbols_of, number_in, same_key}
use Rattle.syntax.specs.Words.{version_word, statement_word, edition_word, sid_word, effect_word, action_word}
use Rattle.syntax.specs.Words.{resource_word, condition_word, allow_word, deny_word, string_equals_word}
use Rattle.syntax.specs.Words.{string_like_word, numeric_less_than_equals_word}
use Rattle.syntax.specs.Members.{then, only, characters, characters_of, is_word, slot, known, required, optional}
use Rattle.syntax.specs.Members.{one_or_more, members, differ, differing}

-- ---- entries

unfoldable pub action_of : Json → Reading (List ℕ)
action_of t = then (characters_of t) (λ cs. only (is_action cs) (map wildcard cs))

unfoldable pub resource_of : Json → Reading (List ℕ)
resource_of t = then (characters_of t) (λ cs. then (symbols_of true cs) (λ ys. only (is_resource ys) ys))

abbrev pub as_text : Reading (List ℕ) → Reading Value
as_text wrong = wrong
as_text (read ys) = read (text ys)

abbrev pub as_number : Reading ℕ → Reading Value
as_number wrong = wrong
as_number (read n) = read (P.number n)

-- a number as a string or a JSON number
unfoldable pub number_of_json : Json → Reading ℕ
number_of_json null = wrong
number_of_json (bool b) = wrong
number_of_json (number w) = number_in w
number_of_json (string w) = then (characters w) number_in
number_of_json (list ts) = wrong
number_of_json (object ms) = wrong

unfoldable pub value_of : Operator → Json → Reading Value
value_of StringEquals t = as_text (then (characters_of t) (symbols_of false))
value_of StringLike t = as_text (then (characters_of t) (symbols_of true))
value_of NumericLessThanEquals t = as_number (number_of_json t)

-- ---- conditions

unfoldable pub key_of : List ℕ → Reading (List ℕ)
key_of w = then (characters w) (λ k. only (is_key k) k)

unfoldable pub row_of : Operator → List ℕ → Json → Reading Row
row_of o w t =
    then (key_of w) (λ k. then (one_or_more (value_of o) t) (λ vs. read (record { operator = o; key = k; entries = vs })))

abbrev pub same_row : Row → Row → Bool
same_row r q = same_key r.key q.key

-- the rows of one operator, of which there is at least one
unfoldable pub rows_of : Operator → Json → Reading (List Row)
rows_of o null = wrong
rows_of o (bool b) = wrong
rows_of o (number w) = wrong
rows_of o (string w) = wrong
rows_of o (list ts) = wrong
rows_of o (object no_members) = wrong
rows_of o (object (named w t ms)) = then (members (row_of o) (named w t ms)) (differing same_row)

unfoldable pub operator_of : List ℕ → Reading Operator
operator_of w =
    pick (same_text (text_of w) string_equals_word) (read StringEquals)
    (pick (same_text (text_of w) string_like_word) (read StringLike)
    (pick (same_text (text_of w) numeric_less_than_equals_word) (read NumericLessThanEquals) wrong))

abbrev pub same_operator : Operator → Operator → Bool
same_operator StringEquals StringEquals = true
same_operator StringEquals StringLike = false
same_operator StringEquals NumericLessThanEquals = false
same_operator StringLike StringEquals = false
same_operator StringLike StringLike = true
same_operator StringLike NumericLessThanEquals = false
same_operator NumericLessThanEquals StringEquals = false
same_operator NumericLessThanEquals StringLike = false
same_operator NumericLessThanEquals NumericLessThanEquals = true

-- an operator and its rows
pub record Group : Type 0 where
  pub operator : Operator
  pub rows : List Row

abbrev pub same_group : Group → Group → Bool
same_group g h = same_operator g.operator h.operator

unfoldable pub group_of : List ℕ → Json → Reading Group
group_of w t = then (operator_of w) (λ o. then (rows_of o t) (λ rs. read (record { operator = o; rows = rs })))

unfoldable pub rows_in : List Group → List Row
rows_in [] = []
rows_in (g ∷ gs) = g.rows ++ rows_in gs

unfoldable pub operators_in : Members → Reading (List Row)
operators_in ms = then (members group_of ms) (λ gs. only (differ same_group gs) (rows_in gs))

unfoldable pub condition_of : Json → Reading (List Row)
condition_of null = wrong
condition_of (bool b) = wrong
condition_of (number w) = wrong
condition_of (string w) = wrong
condition_of (list ts) = wrong
condition_of (object no_members) = wrong
condition_of (object (named w t ms)) = operators_in (named w t ms)

-- ---- statements

unfoldable pub effect_of : Json → Reading Effect
effect_of t = pick (is_word allow_word t) (read Allow) (pick (is_word deny_word t) (read Deny) wrong)

unfoldable pub sid_of : Json → Reading (List ℕ)
sid_of t = then (characters_of t) (λ cs. only (is_sid cs) cs)

unfoldable pub statement_in : Members → Reading Statement
statement_in ms =
    then (optional [] sid_of (slot sid_word ms)) (λ i.
    then (required effect_of (slot effect_word ms)) (λ e.
    then (required (one_or_more action_of) (slot action_word ms)) (λ xs.
    then (required (one_or_more resource_of) (slot resource_word ms)) (λ rs.
    then (optional [] condition_of (slot condition_word ms)) (λ cs.
    read (record { sid = i; effect = e; actions = xs; resources = rs; rows = cs }))))))

unfoldable pub statement_of : Json → Reading Statement
statement_of null = wrong
statement_of (bool b) = wrong
statement_of (number w) = wrong
statement_of (string w) = wrong
statement_of (list ts) = wrong
statement_of (object ms) =
    pick (known (sid_word ∷ effect_word ∷ action_word ∷ resource_word ∷ condition_word ∷ []) ms) (statement_in ms) wrong

-- ---- the policy

-- the same Sid; one of no characters is none
abbrev pub same_sid : Statement → Statement → Bool
same_sid s r = both (ltb 0 (length s.sid)) (same s.sid r.sid)

unfoldable pub policy_in : Members → Reading Policy
policy_in ms =
    then (required (λ t. only (is_word edition_word t) t) (slot version_word ms)) (λ v.
    then (required (one_or_more statement_of) (slot statement_word ms)) (λ p.
    differing same_sid p))

unfoldable pub policy_of : Json → Reading Policy
policy_of null = wrong
policy_of (bool b) = wrong
policy_of (number w) = wrong
policy_of (string w) = wrong
policy_of (list ts) = wrong
policy_of (object ms) = pick (known (version_word ∷ statement_word ∷ []) ms) (policy_in ms) wrong
