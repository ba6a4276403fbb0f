-- The held policy: the run of numbers that holds a policy read, and a request; what every later operation works on.
--   held p         a policy: its statements behind their number
--   held_request r  a request
--   A text is its length and its characters; a list its length and its parts; a number its upper half, marked so that
--   it is no length of a text, and its lower 32 bits.
--   over_limit p    document 01, "Numbered refusals", the limits of a policy
use Rattle.std.specs.Prelude.{Bool, false, List, [], ◌∷◌, ◌++◌, ℕ, ◌+◌, ◌/◌, ◌%◌, ltb, length}
use Rattle.syntax.specs.Limits.{most_statements, most_entries, most_rows, entry_characters, key_characters}
use Rattle.syntax.specs.Policy.{Effect, Allow, Deny, Operator, StringEquals, StringLike, NumericLessThanEquals}
use Rattle.syntax.specs.Policy.{Value, text, number, Row, Statement, Policy, Context, Request}
use Rattle.syntax.specs.Forms.{either}

-- ---- texts and lists

abbrev pub held_text : List ℕ → List ℕ
held_text cs = length cs ∷ cs

unfoldable pub held_each : {A : Type 0} → (A → List ℕ) → List A → List ℕ
held_each f [] = []
held_each f (x ∷ xs) = f x ++ held_each f xs

abbrev pub held_list : {A : Type 0} → (A → List ℕ) → List A → List ℕ
held_list f xs = length xs ∷ held_each f xs

-- what marks a number's upper half
abbrev pub mark : ℕ
mark = 2147483648

abbrev pub held_number : ℕ → List ℕ
held_number n = (mark + n / 4294967296) ∷ n % 4294967296 ∷ []

abbrev pub held_value : Value → List ℕ
held_value (text cs) = held_text cs
held_value (number n) = held_number n

-- ---- a policy

abbrev pub effect_number : Effect → ℕ
effect_number Allow = 1
effect_number Deny = 2

abbrev pub operator_number : Operator → ℕ
operator_number StringEquals = 1
operator_number StringLike = 2
operator_number NumericLessThanEquals = 3

unfoldable pub held_row : Row → List ℕ
held_row r = operator_number r.operator ∷ (held_text r.key ++ held_list held_value r.entries)

unfoldable pub held_statement : Statement → List ℕ
held_statement s =
    effect_number s.effect
    ∷ (held_text s.sid ++ (held_list held_text s.actions ++
    (held_list held_text s.resources ++ held_list held_row s.rows)))

unfoldable pub held : Policy → List ℕ
held p = held_list held_statement p

-- ---- a request: a context entry's type is 1 for a text and 2 for a number

abbrev pub type_number : Value → ℕ
type_number (text cs) = 1
type_number (number n) = 2

unfoldable pub held_context : Context → List ℕ
held_context c = type_number c.value ∷ (held_text c.key ++ held_value c.value)

unfoldable pub held_request : Request → List ℕ
held_request r = held_text r.action ++ (held_text r.resource ++ held_list held_context r.context)

-- ---- limits

unfoldable pub any_of : {A : Type 0} → (A → Bool) → List A → Bool
any_of f [] = false
any_of f (x ∷ xs) = either (f x) (any_of f xs)

abbrev pub long_text : List ℕ → Bool
long_text cs = ltb entry_characters (length cs)

abbrev pub long_value : Value → Bool
long_value (text cs) = long_text cs
long_value (number n) = false

unfoldable pub row_over : Row → Bool
row_over r = either (ltb key_characters (length r.key)) (any_of long_value r.entries)

unfoldable pub rows_over : List Row → Bool
rows_over rs = either (ltb most_rows (length rs)) (any_of row_over rs)

unfoldable pub statement_over : Statement → Bool
statement_over s = either (rows_over s.rows) (either (any_of long_text s.actions) (any_of long_text s.resources))

unfoldable pub total_of : {A : Type 0} → (A → ℕ) → List A → ℕ
total_of f [] = 0
total_of f (x ∷ xs) = f x + total_of f xs

abbrev pub row_entries : List Row → ℕ
row_entries rs = total_of (λ r. length r.entries) rs

unfoldable pub statement_entries : Statement → ℕ
statement_entries s = length s.actions + length s.resources + row_entries s.rows

abbrev pub entries : Policy → ℕ
entries p = total_of statement_entries p

unfoldable pub over_limit : Policy → Bool
over_limit p = either (ltb most_statements (length p)) (either (ltb most_entries (entries p)) (any_of statement_over p))
