-- The written form: document 01, "Written form", from a policy to the tree that is printed, and its bytes.
--   spelled w ys      the characters of an entry: plain $ is `${$}`, and where * and ? may be wildcards (w), plain ones
--                     are `${*}` and `${?}`
--   digits_of n        a number in plain digits
--   grouped rs        rows in their order, by runs of one operator
--   tree_of p          the members in the order's order;  written_policy p   its bytes, without any space outside strings
-- How characters are written is Written's of `text`; the words are written as they are.
-- Differs from 01: nowhere.  Pinned by: Laws/Tree (it reads back as the policy).
use Rattle.std.specs.Prelude.{Bool, true, false, List, [], ◌∷◌, ◌++◌, map, ℕ, zero, suc, ◌+◌, ◌/◌, ◌%◌, eqb, ltb}
use Rattle.chars.specs.Base.{pick, one_of}
use Rattle.text.specs.Json.{Json, string, list, object, Values, no_more, also, Members, no_members, named}
use Rattle.chars.specs.Written.{written_text}
use Rattle.text.specs.Printing.{printed}
use Rattle.syntax.specs.Policy.{star, any, Effect, Allow, Deny, Operator, StringEquals, StringLike}
use Rattle.syntax.specs.Policy.{NumericLessThanEquals, Value, text, number, Row, Statement, Policy}
use Rattle.syntax.specs.Forms.{both, either}
use Rattle.syntax.specs.Words.{version_word, statement_word, edition_word, sid_word, effect_word, action_word}
use Rattle.syntax.specs.Words.{resource_word, condition_word, allow_word, deny_word, string_equals_word, string_like_word}
use Rattle.syntax.specs.Words.{numeric_less_than_equals_word}
use Rattle.syntax.specs.PolicyLayout.{same_operator, Group}

-- ---- characters

-- a wildcard is * or ?, a character itself
unfoldable pub bare : ℕ → ℕ
bare y = pick (eqb y star) 42 (pick (eqb y any) 63 y)

-- $, and where w holds * and ?
unfoldable pub is_escaped : Bool → ℕ → Bool
is_escaped w y = either (eqb y 36) (both w (one_of (42 ∷ 63 ∷ []) y))

unfoldable pub spelling : Bool → ℕ → List ℕ
spelling w y = pick (is_escaped w y) (36 ∷ 123 ∷ y ∷ 125 ∷ []) (bare y ∷ [])

unfoldable pub spelled : Bool → List ℕ → List ℕ
spelled w [] = []
spelled w (y ∷ ys) = spelling w y ++ spelled w ys

-- at most k digits besides the last
unfoldable pub digits_up_to : ℕ → ℕ → List ℕ
digits_up_to zero n = (48 + n % 10) ∷ []
digits_up_to (suc k) n = pick (ltb n 10) ((48 + n) ∷ []) (digits_up_to k (n / 10) ++ ((48 + n % 10) ∷ []))

-- the greatest number has 16
abbrev pub digits_of : ℕ → List ℕ
digits_of n = digits_up_to 15 n

-- ---- entries

abbrev pub string_of : List ℕ → Json
string_of cs = string (written_text cs)

-- each thing as f has it, in a list
unfoldable pub values_of : {A : Type 0} → (A → Json) → List A → Values
values_of f [] = no_more
values_of f (x ∷ xs) = also (f x) (values_of f xs)

abbrev pub list_of : {A : Type 0} → (A → Json) → List A → Json
list_of f xs = list (values_of f xs)

-- an action has no characters to be escaped
unfoldable pub action_tree : List ℕ → Json
action_tree ys = string_of (map bare ys)

unfoldable pub resource_tree : List ℕ → Json
resource_tree ys = string_of (spelled true ys)

abbrev pub has_wildcards : Operator → Bool
has_wildcards StringEquals = false
has_wildcards StringLike = true
has_wildcards NumericLessThanEquals = false

unfoldable pub value_tree : Operator → Value → Json
value_tree o (text ys) = string_of (spelled (has_wildcards o) ys)
value_tree o (number n) = string_of (digits_of n)

-- ---- conditions

-- a row before groups: with the first of them, if that is of its operator
abbrev pub joining : Row → List Group → List Group
joining r [] = record { operator = r.operator; rows = r ∷ [] } ∷ []
joining r (g ∷ gs) =
    pick (same_operator r.operator g.operator)
    (record { operator = g.operator; rows = r ∷ g.rows } ∷ gs)
    (record { operator = r.operator; rows = r ∷ [] } ∷ g ∷ gs)

unfoldable pub grouped : List Row → List Group
grouped [] = []
grouped (r ∷ rs) = joining r (grouped rs)

unfoldable pub rows_tree : List Row → Members
rows_tree [] = no_members
rows_tree (r ∷ rs) =
    named (written_text r.key) (list_of (value_tree r.operator) r.entries) (rows_tree rs)

abbrev pub operator_word : Operator → List ℕ
operator_word StringEquals = string_equals_word
operator_word StringLike = string_like_word
operator_word NumericLessThanEquals = numeric_less_than_equals_word

unfoldable pub groups_tree : List Group → Members
groups_tree [] = no_members
groups_tree (g ∷ gs) = named (operator_word g.operator) (object (rows_tree g.rows)) (groups_tree gs)

-- ---- statements and the policy

abbrev pub effect_name : Effect → List ℕ
effect_name Allow = allow_word
effect_name Deny = deny_word

-- Sid and Condition, where there is one
abbrev pub sid_member : List ℕ → Members → Members
sid_member [] ms = ms
sid_member (c ∷ cs) ms = named sid_word (string_of (c ∷ cs)) ms

abbrev pub condition_member : List Row → Members
condition_member [] = no_members
condition_member (r ∷ rs) = named condition_word (object (groups_tree (grouped (r ∷ rs)))) no_members

unfoldable pub statement_tree : Statement → Json
statement_tree s =
    object (sid_member s.sid
    (named effect_word (string (effect_name s.effect))
    (named action_word (list_of action_tree s.actions)
    (named resource_word (list_of resource_tree s.resources)
    (condition_member s.rows)))))

unfoldable pub tree_of : Policy → Json
tree_of p =
    object (named version_word (string edition_word) (named statement_word (list_of statement_tree p) no_members))

unfoldable pub written_policy : Policy → List ℕ
written_policy p = printed (tree_of p)
