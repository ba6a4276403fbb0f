-- Limits: document 01, "Numbered refusals", its last paragraph and the table; each stands here once.
use Rattle.std.specs.Prelude.{ℕ}

-- bytes of a policy text, of a record, of a result
abbrev pub policy_bytes : ℕ
policy_bytes = 16384

abbrev pub record_bytes : ℕ
record_bytes = 8192

abbrev pub result_bytes : ℕ
result_bytes = 6144

-- numbers of a held run
abbrev pub run_numbers : ℕ
run_numbers = 16384

-- statements in a policy; entries in it; condition rows in a statement; context entries in a record
abbrev pub most_statements : ℕ
most_statements = 16

abbrev pub most_entries : ℕ
most_entries = 64

abbrev pub most_rows : ℕ
most_rows = 8

abbrev pub most_context : ℕ
most_context = 16

-- characters of an entry or a record's text, of a condition key, of a Sid
abbrev pub entry_characters : ℕ
entry_characters = 254

abbrev pub key_characters : ℕ
key_characters = 64

abbrev pub sid_characters : ℕ
sid_characters = 64

-- the greatest number
abbrev pub greatest : ℕ
greatest = 9007199254740991
