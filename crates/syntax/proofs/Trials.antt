-- Both sides of each form, as one list about the definitions, computed.
use mathlib.Core.Path.{◌≡◌, refl}
use mathlib.Core.Bool.{Bool, true, false}
use mathlib.Core.List.{List, [], ◌∷◌, ◌++◌}
use Prim.Native.Nat.{ℕ}
use lib.Dec.{eqb}
use lib.ListN.{replicate}
use Rattle.chars.specs.Base.{one_of}
use Rattle.syntax.specs.Policy.{star, any}
use Rattle.syntax.specs.Forms.{Reading, wrong, read, both, all, same, is_alphanumeric, is_vendor_char, is_name_char}
use Rattle.syntax.specs.Forms.{is_name, is_vendor_tail, is_vendor, is_action, wildcard, colons, begins_arn, is_arn}
use Rattle.syntax.specs.Forms.{is_resource, is_sid, is_key_char, is_key, ahead, symbols_behind, symbols_of}
use Rattle.syntax.specs.Forms.{digits_from, number_in, lower, same_key}

-- a form and whether a text has it; the symbols of an entry; the number of some digits; two keys compared
data Trial : Type 0 where
  has : (List ℕ → Bool) → List ℕ → Bool → Trial
  says : Bool → List ℕ → Reading (List ℕ) → Trial
  counts : List ℕ → Reading ℕ → Trial
  meets : List ℕ → List ℕ → Bool → Trial

agree : Bool → Bool → Bool
agree true u = u
agree false true = false
agree false false = true

same_symbols : Reading (List ℕ) → Reading (List ℕ) → Bool
same_symbols wrong wrong = true
same_symbols wrong (read ys) = false
same_symbols (read xs) wrong = false
same_symbols (read xs) (read ys) = same xs ys

same_number : Reading ℕ → Reading ℕ → Bool
same_number wrong wrong = true
same_number wrong (read n) = false
same_number (read m) wrong = false
same_number (read m) (read n) = eqb m n

holds : Trial → Bool
holds (has form cs t) = agree (form cs) t
holds (says w cs t) = same_symbols (symbols_of w cs) t
holds (counts cs t) = same_number (number_in cs) t
holds (meets k l t) = agree (same_key k l) t

all_hold : List Trial → Bool
all_hold [] = true
all_hold (t ∷ ts) = both (holds t) (all_hold ts)

-- arn:a:b:c, three colons
begun : List ℕ
begun = 97 ∷ 114 ∷ 110 ∷ 58 ∷ 97 ∷ 58 ∷ 98 ∷ 58 ∷ 99 ∷ []

greatest_digits : List ℕ
greatest_digits = 57 ∷ 48 ∷ 48 ∷ 55 ∷ 49 ∷ 57 ∷ 57 ∷ 50 ∷ 53 ∷ 52 ∷ 55 ∷ 52 ∷ 48 ∷ 57 ∷ 57 ∷ []

trials : List Trial
trials =
    -- s3:* and *; s3: and :x lack a part, s3:a:b has a colon too many, a b and * with a vendor are none
    (has is_action (115 ∷ 51 ∷ 58 ∷ 42 ∷ []) true) ∷
    (has is_action (42 ∷ []) true) ∷
    (has is_action (115 ∷ 51 ∷ 58 ∷ []) false) ∷
    (has is_action (58 ∷ 120 ∷ []) false) ∷
    (has is_action (115 ∷ 51 ∷ 58 ∷ 97 ∷ 58 ∷ 98 ∷ []) false) ∷
    (has is_action (97 ∷ 32 ∷ 98 ∷ []) false) ∷
    (has is_action (115 ∷ 42 ∷ 58 ∷ 120 ∷ []) false) ∷
    (has is_action [] false) ∷
    -- four colons and five; the wildcard alone; a plain star alone, which is what ${*} says
    (has is_resource (begun ++ (58 ∷ [])) false) ∷
    (has is_resource (begun ++ (58 ∷ 58 ∷ [])) true) ∷
    (has is_resource (star ∷ []) true) ∷
    (says true (36 ∷ 123 ∷ 42 ∷ 125 ∷ []) (read (42 ∷ []))) ∷
    (has is_resource (42 ∷ []) false) ∷
    -- $${*}, ${$}{x} and ${x}; an escape that is cut off; a bare ? where it is a wildcard and where not
    (says true (36 ∷ 36 ∷ 123 ∷ 42 ∷ 125 ∷ []) (read (36 ∷ 42 ∷ []))) ∷
    (says true (36 ∷ 123 ∷ 36 ∷ 125 ∷ 123 ∷ 120 ∷ 125 ∷ []) (read (36 ∷ 123 ∷ 120 ∷ 125 ∷ []))) ∷
    (says true (36 ∷ 123 ∷ 120 ∷ 125 ∷ []) wrong) ∷
    (says false (36 ∷ 123 ∷ 63 ∷ []) wrong) ∷
    (says true (97 ∷ 63 ∷ 36 ∷ []) (read (97 ∷ any ∷ 36 ∷ []))) ∷
    (says false (97 ∷ 63 ∷ 36 ∷ []) (read (97 ∷ 63 ∷ 36 ∷ []))) ∷
    -- 0 and 00, nothing and a sign; the greatest number and the next one
    (counts (48 ∷ []) (read 0)) ∷
    (counts (48 ∷ 48 ∷ []) wrong) ∷
    (counts [] wrong) ∷
    (counts (45 ∷ 49 ∷ []) wrong) ∷
    (counts (greatest_digits ++ (49 ∷ [])) (read 9007199254740991)) ∷
    (counts (greatest_digits ++ (50 ∷ [])) wrong) ∷
    -- Sids of 64 and 65 characters, of none, and with a sign
    (has is_sid (replicate 64 97) true) ∷
    (has is_sid (replicate 65 97) false) ∷
    (has is_sid [] false) ∷
    (has is_sid (97 ∷ 45 ∷ []) false) ∷
    -- keys: all signs, none, a star; case apart, and a character apart
    (has is_key (97 ∷ 58 ∷ 45 ∷ 95 ∷ 47 ∷ 46 ∷ 57 ∷ []) true) ∷
    (has is_key [] false) ∷
    (has is_key (97 ∷ 42 ∷ []) false) ∷
    (meets (97 ∷ 119 ∷ 115 ∷ 58 ∷ 65 ∷ []) (65 ∷ 87 ∷ 83 ∷ 58 ∷ 97 ∷ []) true) ∷
    (meets (97 ∷ 64 ∷ []) (97 ∷ 96 ∷ []) false) ∷
    (meets (97 ∷ []) (97 ∷ 97 ∷ []) false) ∷
    []

trials_hold : all_hold trials ≡ true
unfolding one_of all same is_alphanumeric is_vendor_char is_name_char is_name is_vendor_tail is_vendor is_action wildcard colons
    begins_arn is_arn is_resource is_sid is_key_char is_key ahead symbols_behind digits_from number_in lower same_key agree
    same_symbols same_number holds all_hold begun greatest_digits trials
trials_hold = refl
