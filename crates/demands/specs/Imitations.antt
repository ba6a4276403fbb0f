-- Imitations: wrong programs that only look right, each shut out by its operation's promise on a named input.
--   wide, guarded, capped     three policies;  wide_text ..   their texts, as they are written
--   asks w                    the record that asks for s3:GetObject on arn:aws:s3::: and the bytes w
--   Leaves policy log room    the records of the log, fed to an empty room, leave the room
--   Begins bs run             the run begins with the bytes bs
-- A room is whatever the promise of Feed lets a Feed leave, an output whatever that of Finish lets it write.
-- Pinned by: AllEnd of Outcomes (there are such rooms and outputs), RefusesAlways (they are not refusals).
use Rattle.std.specs.Prelude.{◌≡◌, List, [], ◌∷◌, ◌++◌, ℕ, length, take, replicate}
use Rattle.text.specs.Json.{Json, string, list, object, no_more, also, Members, no_members, named}
use Rattle.text.specs.Printing.{printed}
use Rattle.syntax.specs.Limits.{result_bytes}
use Rattle.syntax.specs.Policy.{star, Effect, Allow, Deny, NumericLessThanEquals, number, Row, Statement, Policy}
use Rattle.syntax.specs.Words.{action_names_word, resource_arns_word, context_entries_word, context_key_name_word}
use Rattle.syntax.specs.Words.{context_key_type_word, context_key_values_word, numeric_type_word}
use Rattle.policy.specs.Reading.{Outcome, refused, known}
use Rattle.policy.specs.declared.refusals.Refusal.{Refusal}
use Rattle.decide.specs.Operations.{Decides}
use Rattle.decision.specs.declared.deciding.Decision.{Decision}
use Rattle.decision.specs.declared.deciding.Decision.TheVariants.{Denied}
use Rattle.writing.specs.WrittenForm.{written_policy}
use Rattle.candidates.specs.Candidates.{holds, under, up_to}
use Rattle.candidates.specs.Rows.{row_numbers, row, content_of}
use Rattle.refine.specs.Operations.{Feeds, Joins, Finishes, done}
use Rattle.demands.specs.Logs.{Bytes, empty_room, Walks}
use Rattle.rooms.specs.Rooms.{row_at}
use Rattle.demands.specs.Trials.{bucket, get_object}

-- ---- policies

-- s3:*
unfoldable pub s3_all : List ℕ
s3_all = 115 ∷ 51 ∷ 58 ∷ star ∷ []

-- a statement of one action and one resource
abbrev pub one : Effect → List ℕ → List ℕ → List Row → Statement
one e a r rows = record { sid = []; effect = e; actions = a ∷ []; resources = r ∷ []; rows = rows }

-- {"Version":"2012-10-17","Statement":[{"Effect":"Allow","Action":["s3:*"],"Resource":["arn:aws:s3:::*"]}]}
unfoldable pub wide : Policy
wide = one Allow s3_all (bucket ++ (star ∷ [])) [] ∷ []

-- {"Version":"2012-10-17","Statement":[{"Effect":"Allow","Action":["s3:*"],"Resource":["arn:aws:s3:::*"]},
-- {"Effect":"Deny","Action":["s3:*"],"Resource":["arn:aws:s3:::b"]}]}
unfoldable pub guarded : Policy
guarded = one Allow s3_all (bucket ++ (star ∷ [])) [] ∷ one Deny s3_all (bucket ++ (98 ∷ [])) [] ∷ []

-- {"Version":"2012-10-17","Statement":[{"Effect":"Allow","Action":["s3:*"],"Resource":["arn:aws:s3:::*"],
-- "Condition":{"NumericLessThanEquals":{"k":["10","100"]}}}]}
unfoldable pub capped : Policy
capped =
    one Allow s3_all (bucket ++ (star ∷ []))
    (record { operator = NumericLessThanEquals; key = 107 ∷ []; entries = number 10 ∷ number 100 ∷ [] } ∷ []) ∷ []

-- {"Version":"2012-10-17","Statement":[{"Effect":"Allow","Action":["s3:GetObject"],"Resource":["arn:aws:s3:::a*b"]}]}
unfoldable pub starred : Policy
starred = one Allow get_object (bucket ++ (97 ∷ star ∷ 98 ∷ [])) [] ∷ []

unfoldable pub wide_text : Bytes
wide_text = written_policy wide

unfoldable pub guarded_text : Bytes
guarded_text = written_policy guarded

unfoldable pub capped_text : Bytes
capped_text = written_policy capped

-- ---- records

abbrev pub sole : Json → Json
sole t = list (also t no_more)

-- ActionNames and ResourceArns, and members behind them
unfoldable pub record_tree : Bytes → Members → Json
record_tree w more =
    object (named action_names_word (sole (string get_object))
    (named resource_arns_word (sole (string (bucket ++ w))) more))

-- {"ContextKeyName":"k","ContextKeyType":"numeric","ContextKeyValues":["7"]}
unfoldable pub seven : Json
seven =
    object (named context_key_name_word (string (107 ∷ []))
    (named context_key_type_word (string numeric_type_word)
    (named context_key_values_word (sole (string (55 ∷ []))) no_members)))

unfoldable pub asks : Bytes → Bytes
asks w = printed (record_tree w no_members)

-- {"ActionNames":["s3:GetObject"],"ResourceArns":["arn:aws:s3:::a"]}
unfoldable pub asks_a : Bytes
asks_a = asks (97 ∷ [])

-- {"ActionNames":["s3:GetObject"],"ResourceArns":["arn:aws:s3:::b"]}
unfoldable pub asks_b : Bytes
asks_b = asks (98 ∷ [])

-- {"ActionNames":["s3:GetObject"],"ResourceArns":["arn:aws:s3:::a*b"]}
unfoldable pub asks_star : Bytes
asks_star = asks (97 ∷ 42 ∷ 98 ∷ [])

-- {"ActionNames":["s3:GetObject"],"ResourceArns":["arn:aws:s3:::né"]}, é being the bytes 195 169
unfoldable pub asks_acute : Bytes
asks_acute = asks (110 ∷ 195 ∷ 169 ∷ [])

-- {"ActionNames":["s3:GetObject"],"ResourceArns":["arn:aws:s3:::nè"]}, è being the bytes 195 168
unfoldable pub asks_grave : Bytes
asks_grave = asks (110 ∷ 195 ∷ 168 ∷ [])

-- {"ActionNames":["s3:GetObject"],"ResourceArns":["arn:aws:s3:::a"],"ContextEntries":[seven]}
unfoldable pub asks_seven : Bytes
asks_seven = printed (record_tree (97 ∷ []) (named context_entries_word (sole seven) no_members))

-- ---- rooms and outputs

abbrev pub Leaves : Bytes → List Bytes → List ℕ → Type 0
Leaves policy log room = Walks policy empty_room log room

abbrev pub Begins : Bytes → Bytes → Type 0
Begins bs run = take (length bs) run ≡ bs

-- an output with room for any result
unfoldable pub output : Bytes
output = replicate result_bytes 0

-- ---- the imitations

-- Finish writes something for a room that one record left
abbrev pub Finished : Bytes → Type 0
Finished asked =
    (room : List ℕ) → Leaves wide_text (asked ∷ []) room → (f : Refusal) (after : Bytes)
    → Finishes wide_text room output (refused f) after → ⊥

-- refuses always: none of the four does here
pub record RefusesAlways : Type 0 where
  pub decide : (f : Refusal) → Decides guarded_text asks_a (refused f) → ⊥
  pub feed : (f : Refusal) (after : List ℕ) → Feeds wide_text asks_a empty_room (refused f) after → ⊥
  pub join : (room other : List ℕ) → Leaves wide_text (asks_a ∷ []) room → Leaves wide_text (asks_b ∷ []) other
      → (f : Refusal) (after : List ℕ) → Joins wide_text room other (refused f) after → ⊥
  pub finish : Finished asks_a
  pub finish_b : Finished asks_b
  pub finish_star : Finished asks_star

-- always one decision: the two records have none in common
abbrev pub OneDecision : Type 0
OneDecision =
    (d : Decision) → Decides guarded_text asks_a (known d) → Decides guarded_text asks_b (known d) → ⊥

-- returns the original policy: what is written does not begin with its text
abbrev pub ReturnsOriginal : Type 0
ReturnsOriginal =
    (room : List ℕ) → Leaves wide_text (asks_a ∷ []) room → (out after : Bytes) (n : ℕ)
    → Finishes wide_text room out (known n) after → Begins wide_text after → ⊥

-- returns a fixed policy: no bytes bs are written for both rooms
abbrev pub FixedPolicy : Type 0
FixedPolicy =
    (room other : List ℕ) → Leaves wide_text (asks_a ∷ []) room → Leaves wide_text (asks_b ∷ []) other
    → (out lent after behind : Bytes) (n m : ℕ) → Finishes wide_text room out (known n) after
    → Finishes wide_text other lent (known m) behind → (bs : Bytes) → take n after ≡ bs → take m behind ≡ bs → ⊥

-- a Feed that does nothing: the empty room does not stay empty
abbrev pub DoesNothing : Type 0
DoesNothing = (x : Outcome Decision) → Feeds wide_text asks_a empty_room x empty_room → ⊥

-- charges only the first entry that matches: 7 is held in both rows, that of 10 and that of 100
pub record BothHold (room : List ℕ) : Type 0 where
  pub first : content_of (row_at 2 room) ≡ holds (up_to 7)
  pub second : content_of (row_at 3 room) ≡ holds (up_to 7)
  pub not_zeros : row_at 3 room ≡ replicate row_numbers 0 → ⊥

abbrev pub FirstEntryOnly : Type 0
FirstEntryOnly = (room : List ℕ) → Leaves capped_text (asks_seven ∷ []) room → BothHold room

-- charges only the first record: a second one, fed to the room that the first left, does not leave that room
abbrev pub FirstRecordOnly : Type 0
FirstRecordOnly =
    (room : List ℕ) → Leaves wide_text (asks_a ∷ []) room → (x : Outcome Decision) → Feeds wide_text asks_b room x room → ⊥

-- charges denied records: one that the second statement denies changes no room; without that statement it would
pub record ChargesDenied : Type 0 where
  pub denied : Decides guarded_text asks_b (known (Denied 2))
  pub stays : (room after : List ℕ) (x : Outcome Decision) → Feeds guarded_text asks_b room x after → after ≡ room
  pub else_charged : (x : Outcome Decision) → Feeds wide_text asks_b empty_room x empty_room → ⊥

-- a Join that keeps one side: it leaves neither the room nor the other
pub record KeepsOneSide : Type 0 where
  pub mine : (room other : List ℕ) → Leaves wide_text (asks_a ∷ []) room → Leaves wide_text (asks_b ∷ []) other
      → Joins wide_text room other (known done) room → ⊥
  pub theirs : (room other : List ℕ) → Leaves wide_text (asks_a ∷ []) room → Leaves wide_text (asks_b ∷ []) other
      → Joins wide_text room other (known done) other → ⊥

-- a shared beginning cut in bytes: what is held is arn:aws:s3:::n and *, and not that with the byte 195 behind the n
pub record HoldsWhole (room : List ℕ) : Type 0 where
  pub shared : content_of (row_at 1 room) ≡ holds (under (bucket ++ (110 ∷ [])))
  pub not_cut : row_at 1 room ≡ row (holds (under (bucket ++ (110 ∷ 195 ∷ [])))) → ⊥

abbrev pub CutInBytes : Type 0
CutInBytes = (room : List ℕ) → Leaves wide_text (asks_acute ∷ asks_grave ∷ []) room → HoldsWhole room

-- a logged * written bare: what is written does not begin with the policy that has a wildcard there
abbrev pub StarBare : Type 0
StarBare =
    (room : List ℕ) → Leaves wide_text (asks_star ∷ []) room → (out after : Bytes) (n : ℕ)
    → Finishes wide_text room out (known n) after → Begins (written_policy starred) after → ⊥
