-- Bytes: the pieces of the written form, as the writers of held things put them one behind the other; numbers stand for
-- effects, operators and kinds of entries as in a held run.
--   between i            a comma, but not before the first thing
--   entry_bytes k x       an entry: k is 0 for Action, 2 for Resource, and the operator's number in a condition
--   turning k o          before a row of operator o: what stands there if the last one was of operator k, 0 for none
-- Pinned by: Laws/Bytes (put together they are WrittenForm's bytes).
use Rattle.std.specs.Prelude.{List, [], ◌∷◌, ◌++◌, map, ℕ, zero, suc, eqb}
use Rattle.chars.specs.Base.{pick}
use Rattle.chars.specs.Written.{written_text}
use Rattle.text.specs.Printing.{quoted}
use Rattle.syntax.specs.Policy.{Value, text, number, Row, Statement}
use Rattle.held.specs.Held.{effect_number, operator_number}
use Rattle.syntax.specs.Words.{sid_word, effect_word, action_word, resource_word, condition_word, allow_word, deny_word}
use Rattle.syntax.specs.Words.{string_equals_word, string_like_word, numeric_less_than_equals_word}
use Rattle.writing.specs.WrittenForm.{bare, spelled, digits_of}

-- a member's name, and what stands before its value
abbrev pub name : List ℕ → List ℕ
name w = quoted w ++ (58 ∷ [])

abbrev pub between : ℕ → List ℕ
between zero = []
between (suc i) = 44 ∷ []

-- things as f has them, behind i others
unfoldable pub listed : {A : Type 0} → (A → List ℕ) → ℕ → List A → List ℕ
listed f i [] = []
listed f i (x ∷ xs) = between i ++ (f x ++ listed f (suc i) xs)

-- ---- entries

unfoldable pub entry_body : ℕ → Value → List ℕ
entry_body k (text ys) = written_text (pick (eqb k 0) (map bare ys) (spelled (eqb k 2) ys))
entry_body k (number n) = digits_of n

unfoldable pub entry_bytes : ℕ → Value → List ℕ
entry_bytes k x = quoted (entry_body k x)

unfoldable pub list_bytes : ℕ → List Value → List ℕ
list_bytes k xs = 91 ∷ (listed (entry_bytes k) 0 xs ++ (93 ∷ []))

-- ---- rows

unfoldable pub operator_name : ℕ → List ℕ
operator_name k =
    pick (eqb k 1) string_equals_word (pick (eqb k 2) string_like_word numeric_less_than_equals_word)

abbrev pub ending : ℕ → List ℕ
ending zero = []
ending (suc k) = 125 ∷ 44 ∷ []

unfoldable pub turning : ℕ → ℕ → List ℕ
turning k o = pick (eqb k o) (44 ∷ []) (ending k ++ (name (operator_name o) ++ (123 ∷ [])))

unfoldable pub row_bytes : Row → List ℕ
row_bytes r = name (written_text r.key) ++ list_bytes (operator_number r.operator) r.entries

unfoldable pub rows_from : ℕ → List Row → List ℕ
rows_from k [] = []
rows_from k (r ∷ rs) =
    turning k (operator_number r.operator) ++ (row_bytes r ++ rows_from (operator_number r.operator) rs)

-- ---- statements

abbrev pub condition_bytes : List Row → List ℕ
condition_bytes [] = []
condition_bytes (r ∷ rs) = 44 ∷ (name condition_word ++ (123 ∷ (rows_from 0 (r ∷ rs) ++ (125 ∷ 125 ∷ []))))

abbrev pub sid_bytes : List ℕ → List ℕ
sid_bytes [] = []
sid_bytes (c ∷ cs) = name sid_word ++ (quoted (written_text (c ∷ cs)) ++ (44 ∷ []))

unfoldable pub effect_bytes : ℕ → List ℕ
effect_bytes k = name effect_word ++ (quoted (pick (eqb k 1) allow_word deny_word) ++ (44 ∷ []))

-- up to the actions
unfoldable pub head_bytes : Statement → List ℕ
head_bytes s = 123 ∷ (sid_bytes s.sid ++ (effect_bytes (effect_number s.effect) ++ name action_word))

unfoldable pub statement_bytes : Statement → List ℕ
statement_bytes s =
    123 ∷ (sid_bytes s.sid
    ++ (effect_bytes (effect_number s.effect)
    ++ (name action_word ++ (list_bytes 0 (map text s.actions)
    ++ (44 ∷ (name resource_word ++ (list_bytes 2 (map text s.resources)
    ++ (condition_bytes s.rows ++ (125 ∷ [])))))))))
