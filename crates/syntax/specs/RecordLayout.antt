-- The record layout: document 01, "Record layout", from the tree that a text says to the request that it is, or
-- `wrong`; its limits are part of it, since refusal 9 is for both.
--   request_of t   ActionNames with one action; ResourceArns absent or with one; ContextEntries absent or a list
--   context_of t   ContextKeyName, ContextKeyType and ContextKeyValues with one string
-- Differs from 01: nowhere.
use Rattle.std.specs.Prelude.{Bool, List, [], ◌∷◌, ℕ, eqb, leb, length}
use Rattle.chars.specs.Base.{pick}
use Rattle.text.specs.Json.{Json, null, bool, number, string, list, object, no_more, also}
use Rattle.syntax.specs.Limits.{entry_characters, key_characters, most_context}
use Rattle.syntax.specs.Policy.{Value, text, Context, Request}
use Rattle.syntax.specs.Policy as P
use Rattle.syntax.specs.Forms.{Reading, wrong, read, both, either, all, same, is_vendor, is_vendor_char, is_arn}
use Rattle.syntax.specs.Forms.{is_key, number_in, same_key}
use Rattle.syntax.specs.Words.{action_names_word, resource_arns_word, context_entries_word, context_key_name_word}
use Rattle.syntax.specs.Words.{context_key_type_word, context_key_values_word, string_type_word, numeric_type_word}
use Rattle.syntax.specs.Members.{then, only, characters_of, is_word, slot, known, required, optional, each, differ}

-- a list of exactly one thing
unfoldable pub only_one : {A : Type 0} → (Json → Reading A) → Json → Reading A
only_one f null = wrong
only_one f (bool b) = wrong
only_one f (number w) = wrong
only_one f (string w) = wrong
only_one f (list no_more) = wrong
only_one f (list (also t no_more)) = f t
only_one f (list (also t (also u ts))) = wrong
only_one f (object ms) = wrong

-- within the limit of an entry's characters
unfoldable pub short : List ℕ → Bool
short cs = leb (length cs) entry_characters

-- characters that name no wildcard, or the colon between vendor and name
unfoldable pub is_plain : ℕ → Bool
is_plain c = either (is_vendor_char c) (eqb c 58)

-- formed as an Action entry without wildcards
abbrev pub is_action_name : List ℕ → Bool
is_action_name cs = both (is_vendor cs) (both (all is_plain cs) (short cs))

unfoldable pub action_name_of : Json → Reading (List ℕ)
action_name_of t = then (characters_of t) (λ cs. only (is_action_name cs) cs)

-- "*", or begins arn: and has five colons at least
abbrev pub is_resource_arn : List ℕ → Bool
is_resource_arn cs = both (either (same cs (42 ∷ [])) (is_arn cs)) (short cs)

unfoldable pub resource_arn_of : Json → Reading (List ℕ)
resource_arn_of t = then (characters_of t) (λ cs. only (is_resource_arn cs) cs)

-- ---- context entries

abbrev pub is_key_name : List ℕ → Bool
is_key_name k = both (is_key k) (leb (length k) key_characters)

unfoldable pub key_name_of : Json → Reading (List ℕ)
key_name_of t = then (characters_of t) (λ k. only (is_key_name k) k)

abbrev pub as_number : Reading ℕ → Reading Value
as_number wrong = wrong
as_number (read n) = read (P.number n)

-- a value of the type "string" or "numeric", which t names
unfoldable pub typed_of : Json → List ℕ → Reading Value
typed_of t cs = pick (is_word string_type_word t) (only (short cs) (text cs))
    (pick (is_word numeric_type_word t) (as_number (number_in cs)) wrong)

unfoldable pub context_of : Json → Reading Context
context_of null = wrong
context_of (bool b) = wrong
context_of (number w) = wrong
context_of (string w) = wrong
context_of (list ts) = wrong
context_of (object ms) =
    pick (known (context_key_name_word ∷ context_key_type_word ∷ context_key_values_word ∷ []) ms)
    (then (required key_name_of (slot context_key_name_word ms)) (λ k.
    then (required (λ t. read t) (slot context_key_type_word ms)) (λ t.
    then (required (only_one characters_of) (slot context_key_values_word ms)) (λ cs.
    then (typed_of t cs) (λ v. read (record { key = k; value = v }))))))
    wrong

abbrev pub same_context : Context → Context → Bool
same_context c d = same_key c.key d.key

unfoldable pub contexts_of : Json → Reading (List Context)
contexts_of null = wrong
contexts_of (bool b) = wrong
contexts_of (number w) = wrong
contexts_of (string w) = wrong
contexts_of (list ts) =
    then (each context_of ts) (λ cs. only (both (leb (length cs) most_context) (differ same_context cs)) cs)
contexts_of (object ms) = wrong

-- ---- the record

-- an absent resource means "*"
unfoldable pub request_of : Json → Reading Request
request_of null = wrong
request_of (bool b) = wrong
request_of (number w) = wrong
request_of (string w) = wrong
request_of (list ts) = wrong
request_of (object ms) =
    pick (known (action_names_word ∷ resource_arns_word ∷ context_entries_word ∷ []) ms)
    (then (required (only_one action_name_of) (slot action_names_word ms)) (λ a.
    then (optional (42 ∷ []) (only_one resource_arn_of) (slot resource_arns_word ms)) (λ r.
    then (optional [] contexts_of (slot context_entries_word ms)) (λ cs.
    read (record { action = a; resource = r; context = cs })))))
    wrong
