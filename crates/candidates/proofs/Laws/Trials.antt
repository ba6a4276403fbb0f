-- Entries, what is charged to them and what they are then written as: T1 to T10 of document 01 (T9 entry by entry), and
-- both sides of what makes a candidate legal, as one list about the definitions, computed.
use mathlib.Core.Path.{◌≡◌, refl}
use mathlib.Core.Bool.{Bool, true, false}
use mathlib.Core.List.{List, [], ◌∷◌, ◌++◌}
use Prim.Native.Nat.{ℕ, zero, suc}
use lib.Dec.{eqb}
use Rattle.chars.specs.Base.{one_of}
use Rattle.syntax.specs.Policy.{star, any, StringEquals, StringLike, NumericLessThanEquals, Value, text}
use Rattle.syntax.specs.Policy.{number}
use Rattle.syntax.specs.Forms.{both, all, same, is_alphanumeric, is_vendor_char, is_name_char, is_name}
use Rattle.syntax.specs.Forms.{is_vendor_tail, is_vendor, is_action, colons, begins_arn, is_arn, is_resource}
use Rattle.decision.specs.Matching.{some_ending, first, matches}
use Rattle.writing.specs.WrittenForm.{bare, is_escaped, spelling, spelled}
use Rattle.candidates.specs.Candidates.{Candidate, itself, single, under, up_to, Content, empty, holds}
use Rattle.candidates.specs.Candidates.{held_from, held}
use Rattle.candidates.specs.Beginnings.{begins, shared, longest_up_to}
use Rattle.candidates.specs.Entries.{Place, in_action, in_resource, in_row, meets_at, wildcards, refined, is_scalar}
use Rattle.candidates.specs.Entries.{legal_text, legal_beginning, wild_kind, kind_of}

data Trial : Type 0 where
  -- an entry, what is charged to it, and what it is written as
  leaves : Place → Value → List Value → Value → Trial
  -- and whether that matches a value
  meets_then : Place → Value → List Value → Value → Bool → Trial
  -- and with which characters, where * and ? may be wildcards
  spelled_then : Place → Value → List Value → Value → Trial
  -- whether it is a candidate of the entry
  has : Place → Value → Candidate → Bool → Trial

alike : Bool → Bool → Bool
alike true b = b
alike false true = false
alike false false = true

same_value : Value → Value → Bool
same_value (text s) (text t) = same s t
same_value (text s) (number n) = false
same_value (number n) (text t) = false
same_value (number n) (number m) = eqb n m

-- f of what a row is written as; an empty one is not written
of_written : (Value → Bool) → Value → Content → Bool
of_written f x empty = false
of_written f x (holds c) = f (refined x c)

spelled_value : Value → Value
spelled_value (text ys) = text (spelled true ys)
spelled_value (number n) = number n

passes : Trial → Bool
passes (leaves p x vs y) = of_written (same_value y) x (held (kind_of p x) vs)
passes (meets_then p x vs v b) = of_written (λ y. alike b (meets_at p y v)) x (held (kind_of p x) vs)
passes (spelled_then p x vs y) = of_written (λ z. same_value y (spelled_value z)) x (held (kind_of p x) vs)
passes (has p x c b) = alike b ((kind_of p x).is c)

all_pass : List Trial → Bool
all_pass [] = true
all_pass (t ∷ ts) = both (passes t) (all_pass ts)

-- ---- texts

-- arn:aws:s3:::
bucket : List ℕ
bucket = 97 ∷ 114 ∷ 110 ∷ 58 ∷ 97 ∷ 119 ∷ 115 ∷ 58 ∷ 115 ∷ 51 ∷ 58 ∷ 58 ∷ 58 ∷ []

-- document 01's G, arn:aws:s3:::gate/, and what follows it
G : List ℕ → Value
G t = text (bucket ++ (103 ∷ 97 ∷ 116 ∷ 101 ∷ 47 ∷ t))

-- north/
north : List ℕ → List ℕ
north t = 110 ∷ 111 ∷ 114 ∷ 116 ∷ 104 ∷ 47 ∷ t

-- s3:Get
s3_get : List ℕ → Value
s3_get t = text (115 ∷ 51 ∷ 58 ∷ 71 ∷ 101 ∷ 116 ∷ t)

-- s3:GetObject, s3:GetBucketAcl, sqs:SendMessage
get_object : Value
get_object = s3_get (79 ∷ 98 ∷ 106 ∷ 101 ∷ 99 ∷ 116 ∷ [])

get_bucket_acl : Value
get_bucket_acl = s3_get (66 ∷ 117 ∷ 99 ∷ 107 ∷ 101 ∷ 116 ∷ 65 ∷ 99 ∷ 108 ∷ [])

send_message : Value
send_message =
    text (115 ∷ 113 ∷ 115 ∷ 58 ∷ 83 ∷ 101 ∷ 110 ∷ 100 ∷ 77 ∷ 101 ∷ 115 ∷ 115 ∷ 97 ∷ 103 ∷ 101 ∷ [])

every : Value
every = text (star ∷ [])

-- n times the letter a, and then t
letters : ℕ → List ℕ → List ℕ
letters zero t = t
letters (suc n) t = 97 ∷ letters n t

-- ---- trials

at_most : Place
at_most = in_row NumericLessThanEquals

trials : List Trial
trials =
    -- T1 to T4: a shared beginning is counted in characters; a logged * is plain
    (leaves in_resource (G (star ∷ [])) (G (north (233 ∷ 49 ∷ [])) ∷ G (north (232 ∷ 49 ∷ [])) ∷ [])
    (G (north (star ∷ [])))) ∷
    (leaves in_resource (G (star ∷ [])) (G (110 ∷ []) ∷ G (110 ∷ 49 ∷ []) ∷ []) (G (110 ∷ star ∷ []))) ∷
    (leaves in_resource (G (star ∷ [])) (G [] ∷ []) (G [])) ∷
    (leaves in_resource (G (star ∷ [])) (G (97 ∷ 42 ∷ 98 ∷ []) ∷ []) (G (97 ∷ 42 ∷ 98 ∷ []))) ∷
    (spelled_then in_resource (G (star ∷ [])) (G (97 ∷ 42 ∷ 98 ∷ []) ∷ [])
    (G (97 ∷ 36 ∷ 123 ∷ 42 ∷ 125 ∷ 98 ∷ []))) ∷
    (meets_then in_resource (G (star ∷ [])) (G (97 ∷ 42 ∷ 98 ∷ []) ∷ []) (G (97 ∷ 88 ∷ 98 ∷ [])) false) ∷
    (meets_then in_resource (G (star ∷ [])) (G (97 ∷ 42 ∷ 98 ∷ []) ∷ []) (G (97 ∷ 42 ∷ 98 ∷ [])) true) ∷
    -- T5 and T6: s* is no Action
    (leaves in_action every (get_object ∷ get_bucket_acl ∷ []) (s3_get (star ∷ []))) ∷
    (leaves in_action every (get_object ∷ send_message ∷ []) every) ∷
    -- T7 and T8: a logged resource * keeps the entry *
    (leaves in_resource every (text (bucket ++ (97 ∷ [])) ∷ text (bucket ++ (98 ∷ [])) ∷ [])
    (text (bucket ++ (star ∷ [])))) ∷
    (leaves in_resource every (text (42 ∷ []) ∷ []) every) ∷
    -- T9, entry by entry: 7 is charged to both, 50 to one; and 7 alone
    (leaves at_most (number 10) (number 7 ∷ []) (number 7)) ∷
    (leaves at_most (number 100) (number 7 ∷ number 50 ∷ []) (number 50)) ∷
    (leaves at_most (number 100) (number 50 ∷ number 7 ∷ []) (number 50)) ∷
    (leaves at_most (number 100) (number 7 ∷ []) (number 7)) ∷
    -- T10: any other wildcard entry
    (leaves in_resource (G (97 ∷ any ∷ 99 ∷ [])) (G (97 ∷ 98 ∷ 99 ∷ []) ∷ G (97 ∷ 100 ∷ 99 ∷ []) ∷ [])
    (G (97 ∷ any ∷ 99 ∷ []))) ∷
    (leaves in_resource (G (97 ∷ any ∷ 99 ∷ [])) (G (97 ∷ 98 ∷ 99 ∷ []) ∷ []) (G (97 ∷ 98 ∷ 99 ∷ []))) ∷
    -- StringEquals, and no wildcard: itself
    (leaves (in_row StringEquals) (text (97 ∷ 42 ∷ [])) (text (97 ∷ 42 ∷ []) ∷ []) (text (97 ∷ 42 ∷ []))) ∷
    (has (in_row StringEquals) (text (97 ∷ 42 ∷ [])) (single (97 ∷ 42 ∷ [])) false) ∷
    (has in_action get_object itself true) ∷
    (has (in_row StringLike) (text (97 ∷ [])) (single (97 ∷ [])) false) ∷
    -- two stars at the end are another wildcard entry; a plain star before the last is none
    (has (in_row StringLike) (text (97 ∷ star ∷ star ∷ [])) (under (97 ∷ 98 ∷ [])) false) ∷
    (has (in_row StringLike) (text (97 ∷ 42 ∷ star ∷ [])) (under (97 ∷ 42 ∷ 98 ∷ [])) true) ∷
    -- the entry itself is held in one way alone, and a longer beginning begins with its text
    (has (in_row StringLike) (text (97 ∷ star ∷ [])) (under (97 ∷ [])) false) ∷
    (has (in_row StringLike) (text (97 ∷ star ∷ [])) (under (97 ∷ 98 ∷ [])) true) ∷
    (has (in_row StringLike) (text (97 ∷ star ∷ [])) (under (98 ∷ 97 ∷ [])) false) ∷
    (has (in_row StringLike) (text (97 ∷ star ∷ [])) (single (98 ∷ [])) false) ∷
    -- under StringLike a logged * is held plain; in Action nothing plain can be
    (leaves (in_row StringLike) every (text (42 ∷ []) ∷ []) (text (42 ∷ []))) ∷
    (has in_action every (single (115 ∷ 58 ∷ 42 ∷ [])) false) ∷
    (has in_action every (single (115 ∷ 58 ∷ 97 ∷ [])) true) ∷
    (has in_action every (under (115 ∷ 58 ∷ [])) true) ∷
    (has in_action every (under (115 ∷ [])) false) ∷
    -- four colons, the one of arn: among them, make no resource
    (has in_resource every (under (97 ∷ 114 ∷ 110 ∷ 58 ∷ 58 ∷ 58 ∷ 58 ∷ [])) false) ∷
    (has in_resource every (under (97 ∷ 114 ∷ 110 ∷ 58 ∷ 58 ∷ 58 ∷ 58 ∷ 58 ∷ [])) true) ∷
    -- a surrogate or a wildcard is no character
    (has (in_row StringLike) every (single (55296 ∷ [])) false) ∷
    (has (in_row StringLike) every (single (57344 ∷ [])) true) ∷
    (has (in_row StringLike) every (single (star ∷ [])) false) ∷
    -- 254 characters, the star being one
    (has (in_row StringLike) every (single (letters 254 [])) true) ∷
    (has (in_row StringLike) every (single (letters 255 [])) false) ∷
    (leaves (in_row StringLike) every (text (letters 253 (98 ∷ [])) ∷ text (letters 253 (99 ∷ [])) ∷ [])
    (text (letters 253 (star ∷ [])))) ∷
    (has (in_row StringLike) every (under (letters 254 [])) false) ∷
    -- numbers
    (has at_most (number 10) (up_to 10) true) ∷
    (has at_most (number 10) (up_to 11) false) ∷
    (has at_most (number 10) itself false) ∷
    []

trials_pass : all_pass trials ≡ true
unfolding alike same_value spelled_value of_written passes all_pass bucket G north s3_get get_object get_bucket_acl send_message
    every letters at_most trials one_of all same is_alphanumeric is_vendor_char is_name_char is_name is_vendor_tail is_vendor
    is_action colons begins_arn is_arn is_resource some_ending first matches bare is_escaped spelling spelled held_from begins
    shared longest_up_to wildcards is_scalar legal_text legal_beginning wild_kind
trials_pass = refl
