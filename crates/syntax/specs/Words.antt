-- The words of the two layouts, by their characters; the comment above each is the word itself.
use Rattle.std.specs.Prelude.{List, [], ◌∷◌, ℕ}

-- Version
abbrev pub version_word : List ℕ
version_word = 86 ∷ 101 ∷ 114 ∷ 115 ∷ 105 ∷ 111 ∷ 110 ∷ []

-- Statement
abbrev pub statement_word : List ℕ
statement_word = 83 ∷ 116 ∷ 97 ∷ 116 ∷ 101 ∷ 109 ∷ 101 ∷ 110 ∷ 116 ∷ []

-- 2012-10-17
abbrev pub edition_word : List ℕ
edition_word = 50 ∷ 48 ∷ 49 ∷ 50 ∷ 45 ∷ 49 ∷ 48 ∷ 45 ∷ 49 ∷ 55 ∷ []

-- Sid
abbrev pub sid_word : List ℕ
sid_word = 83 ∷ 105 ∷ 100 ∷ []

-- Effect
abbrev pub effect_word : List ℕ
effect_word = 69 ∷ 102 ∷ 102 ∷ 101 ∷ 99 ∷ 116 ∷ []

-- Action
abbrev pub action_word : List ℕ
action_word = 65 ∷ 99 ∷ 116 ∷ 105 ∷ 111 ∷ 110 ∷ []

-- Resource
abbrev pub resource_word : List ℕ
resource_word = 82 ∷ 101 ∷ 115 ∷ 111 ∷ 117 ∷ 114 ∷ 99 ∷ 101 ∷ []

-- Condition
abbrev pub condition_word : List ℕ
condition_word = 67 ∷ 111 ∷ 110 ∷ 100 ∷ 105 ∷ 116 ∷ 105 ∷ 111 ∷ 110 ∷ []

-- Allow
abbrev pub allow_word : List ℕ
allow_word = 65 ∷ 108 ∷ 108 ∷ 111 ∷ 119 ∷ []

-- Deny
abbrev pub deny_word : List ℕ
deny_word = 68 ∷ 101 ∷ 110 ∷ 121 ∷ []

-- StringEquals
abbrev pub string_equals_word : List ℕ
string_equals_word = 83 ∷ 116 ∷ 114 ∷ 105 ∷ 110 ∷ 103 ∷ 69 ∷ 113 ∷ 117 ∷ 97 ∷ 108 ∷ 115 ∷ []

-- StringLike
abbrev pub string_like_word : List ℕ
string_like_word = 83 ∷ 116 ∷ 114 ∷ 105 ∷ 110 ∷ 103 ∷ 76 ∷ 105 ∷ 107 ∷ 101 ∷ []

-- NumericLessThanEquals
abbrev pub numeric_less_than_equals_word : List ℕ
numeric_less_than_equals_word = 78 ∷ 117 ∷ 109 ∷ 101 ∷ 114 ∷ 105 ∷ 99 ∷ 76 ∷ 101 ∷ 115 ∷ 115 ∷ 84 ∷ 104 ∷ 97 ∷ 110 ∷ 69 ∷
    113 ∷ 117 ∷ 97 ∷ 108 ∷ 115 ∷ []

-- ActionNames
abbrev pub action_names_word : List ℕ
action_names_word = 65 ∷ 99 ∷ 116 ∷ 105 ∷ 111 ∷ 110 ∷ 78 ∷ 97 ∷ 109 ∷ 101 ∷ 115 ∷ []

-- ResourceArns
abbrev pub resource_arns_word : List ℕ
resource_arns_word = 82 ∷ 101 ∷ 115 ∷ 111 ∷ 117 ∷ 114 ∷ 99 ∷ 101 ∷ 65 ∷ 114 ∷ 110 ∷ 115 ∷ []

-- ContextEntries
abbrev pub context_entries_word : List ℕ
context_entries_word = 67 ∷ 111 ∷ 110 ∷ 116 ∷ 101 ∷ 120 ∷ 116 ∷ 69 ∷ 110 ∷ 116 ∷ 114 ∷ 105 ∷ 101 ∷ 115 ∷ []

-- ContextKeyName
abbrev pub context_key_name_word : List ℕ
context_key_name_word = 67 ∷ 111 ∷ 110 ∷ 116 ∷ 101 ∷ 120 ∷ 116 ∷ 75 ∷ 101 ∷ 121 ∷ 78 ∷ 97 ∷ 109 ∷ 101 ∷ []

-- ContextKeyType
abbrev pub context_key_type_word : List ℕ
context_key_type_word = 67 ∷ 111 ∷ 110 ∷ 116 ∷ 101 ∷ 120 ∷ 116 ∷ 75 ∷ 101 ∷ 121 ∷ 84 ∷ 121 ∷ 112 ∷ 101 ∷ []

-- ContextKeyValues
abbrev pub context_key_values_word : List ℕ
context_key_values_word = 67 ∷ 111 ∷ 110 ∷ 116 ∷ 101 ∷ 120 ∷ 116 ∷ 75 ∷ 101 ∷ 121 ∷ 86 ∷ 97 ∷ 108 ∷ 117 ∷ 101 ∷ 115 ∷ []

-- string
abbrev pub string_type_word : List ℕ
string_type_word = 115 ∷ 116 ∷ 114 ∷ 105 ∷ 110 ∷ 103 ∷ []

-- numeric
abbrev pub numeric_type_word : List ℕ
numeric_type_word = 110 ∷ 117 ∷ 109 ∷ 101 ∷ 114 ∷ 105 ∷ 99 ∷ []
