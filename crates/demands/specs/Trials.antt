-- Trials: document 01, "Trials on both sides", T1 to T12, as one list about the definitions.
--   leaves p x vs y      an entry x at p, what is charged to it, and the entry that it is then written as
--   then_meets ..        and whether that matches a value
--   charges_nothing p r  the request r charges nothing under the policy p;  gives_ten p   with no record, 10 is given
use Rattle.std.specs.Prelude.{◌≡◌, Bool, true, false, List, [], ◌∷◌, ◌++◌, ℕ, eqb}
use Rattle.syntax.specs.Policy.{star, any, Allow, Deny, NumericLessThanEquals, Value, text, number, Statement, Policy}
use Rattle.syntax.specs.Policy.{Request}
use Rattle.syntax.specs.Forms.{both, same}
use Rattle.decision.specs.Decision.{Found, nothing, found}
use Rattle.candidates.specs.Candidates.{Content, empty, holds, held}
use Rattle.candidates.specs.Entries.{Place, in_action, in_resource, in_row, meets_at, refined, kind_of}
use Rattle.rooms.specs.Rooms.{charges}
use Rattle.refined.specs.Finishing.{refined_policy, has_allow}
use Rattle.demands.specs.Logs.{empty_room}

pub data Trial : Type 0 where
  leaves : Place → Value → List Value → Value → Trial
  then_meets : Place → Value → List Value → Value → Bool → Trial
  charges_nothing : Policy → Request → Trial
  gives_ten : Policy → Trial

-- ---- what each asks

abbrev pub same_value : Value → Value → Bool
same_value (text s) (text t) = same s t
same_value (text s) (number n) = false
same_value (number n) (text t) = false
same_value (number n) (number m) = eqb n m

abbrev pub alike : Bool → Bool → Bool
alike true b = b
alike false true = false
alike false false = true

-- of what the row is written as; an empty one is not written
abbrev pub of_written : (Value → Bool) → Value → Content → Bool
of_written f x empty = false
of_written f x (holds c) = f (refined x c)

unfoldable pub all_nothing : List Found → Bool
all_nothing [] = true
all_nothing (nothing ∷ fs) = all_nothing fs
all_nothing (found v ∷ fs) = false

abbrev pub passes : Trial → Bool
passes (leaves p x vs y) = of_written (same_value y) x (held (kind_of p x) vs)
passes (then_meets p x vs v b) = of_written (λ y. alike b (meets_at p y v)) x (held (kind_of p x) vs)
passes (charges_nothing p r) = all_nothing (charges p r)
passes (gives_ten p) = alike false (has_allow (refined_policy p empty_room))

unfoldable pub all_pass : List Trial → Bool
all_pass [] = true
all_pass (t ∷ ts) = both (passes t) (all_pass ts)

-- ---- the texts

-- arn:aws:s3:::
unfoldable pub bucket : List ℕ
bucket = 97 ∷ 114 ∷ 110 ∷ 58 ∷ 97 ∷ 119 ∷ 115 ∷ 58 ∷ 115 ∷ 51 ∷ 58 ∷ 58 ∷ 58 ∷ []

-- G stands for arn:aws:s3:::gate/
unfoldable pub G : List ℕ → Value
G cs = text (bucket ++ (103 ∷ 97 ∷ 116 ∷ 101 ∷ 47 ∷ cs))

-- north/
unfoldable pub north : List ℕ → List ℕ
north cs = 110 ∷ 111 ∷ 114 ∷ 116 ∷ 104 ∷ 47 ∷ cs

-- s3:Get
unfoldable pub s3_get : List ℕ → List ℕ
s3_get cs = 115 ∷ 51 ∷ 58 ∷ 71 ∷ 101 ∷ 116 ∷ cs

-- s3:GetObject, s3:GetBucketAcl, sqs:SendMessage
unfoldable pub get_object : List ℕ
get_object = s3_get (79 ∷ 98 ∷ 106 ∷ 101 ∷ 99 ∷ 116 ∷ [])

unfoldable pub get_bucket_acl : List ℕ
get_bucket_acl = s3_get (66 ∷ 117 ∷ 99 ∷ 107 ∷ 101 ∷ 116 ∷ 65 ∷ 99 ∷ 108 ∷ [])

unfoldable pub send_message : List ℕ
send_message =
    115 ∷ 113 ∷ 115 ∷ 58 ∷ 83 ∷ 101 ∷ 110 ∷ 100 ∷ 77 ∷ 101 ∷ 115 ∷ 115 ∷ 97 ∷ 103 ∷ 101 ∷ []

-- * as an entry
abbrev pub every : Value
every = text (star ∷ [])

-- an Allow of everything, and a Deny of it
abbrev pub allow_all : Statement
allow_all = record { sid = []; effect = Allow; actions = (star ∷ []) ∷ []; resources = (star ∷ []) ∷ []; rows = [] }

abbrev pub deny_all : Statement
deny_all = record { sid = []; effect = Deny; actions = (star ∷ []) ∷ []; resources = (star ∷ []) ∷ []; rows = [] }

abbrev pub asks_get : Request
asks_get = record { action = get_object; resource = 42 ∷ []; context = [] }

-- ---- the list

unfoldable pub trials : List Trial
trials =
    -- T1: é and è share no character
    (leaves in_resource (G (star ∷ [])) (G (north (233 ∷ 49 ∷ [])) ∷ G (north (232 ∷ 49 ∷ [])) ∷ []) (G (north (star ∷ [])))) ∷
    -- T2, T3
    (leaves in_resource (G (star ∷ [])) (G (110 ∷ []) ∷ G (110 ∷ 49 ∷ []) ∷ []) (G (110 ∷ star ∷ []))) ∷
    (leaves in_resource (G (star ∷ [])) (G [] ∷ []) (G [])) ∷
    -- T4: a logged * is plain, and no longer matches GaXb
    (leaves in_resource (G (star ∷ [])) (G (97 ∷ 42 ∷ 98 ∷ []) ∷ []) (G (97 ∷ 42 ∷ 98 ∷ []))) ∷
    (then_meets in_resource (G (star ∷ [])) (G (97 ∷ 42 ∷ 98 ∷ []) ∷ []) (G (97 ∷ 88 ∷ 98 ∷ [])) false) ∷
    -- T5, T6
    (leaves in_action every (text get_object ∷ text get_bucket_acl ∷ []) (text (s3_get (star ∷ [])))) ∷
    (leaves in_action every (text get_object ∷ text send_message ∷ []) every) ∷
    -- T7, T8
    (leaves in_resource every (text (bucket ++ (97 ∷ [])) ∷ text (bucket ++ (98 ∷ [])) ∷ []) (text (bucket ++ (star ∷ [])))) ∷
    (leaves in_resource every (text (42 ∷ []) ∷ []) every) ∷
    -- T9: 7 is charged to both entries, 50 to one
    (leaves (in_row NumericLessThanEquals) (number 10) (number 7 ∷ []) (number 7)) ∷
    (leaves (in_row NumericLessThanEquals) (number 100) (number 7 ∷ number 50 ∷ []) (number 50)) ∷
    -- T10
    (leaves in_resource (G (97 ∷ any ∷ 99 ∷ [])) (G (97 ∷ 98 ∷ 99 ∷ []) ∷ G (97 ∷ 100 ∷ 99 ∷ []) ∷ [])
    (G (97 ∷ any ∷ 99 ∷ []))) ∷
    (leaves in_resource (G (97 ∷ any ∷ 99 ∷ [])) (G (97 ∷ 98 ∷ 99 ∷ []) ∷ []) (G (97 ∷ 98 ∷ 99 ∷ []))) ∷
    -- T11, T12
    (charges_nothing (allow_all ∷ deny_all ∷ []) asks_get) ∷
    (gives_ten (allow_all ∷ [])) ∷ []

-- T1 to T12
abbrev pub TrialsPass : Type 0
TrialsPass = all_pass trials ≡ true
