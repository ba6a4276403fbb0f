-- Operations: what Feed, Join, Finish and Fresh answer and leave, for all bytes and numbers: document 01, "What is
-- bought", with the refusals in their order; what was lent stays as it was where one is given.
--   Feeds p r room x after       the policy text p, the record r and the room come to x, and the room to after
--   Joins p room other x after   the same of two rooms, of which the other is only read
--   Finishes p room out x after  the same of an output, which takes the refined policy
--   freshened room               of Fresh: done, and zeros; or 1, and the room
-- Differs from 01: nowhere.  Pinned by: Laws/Operations (no two outcomes).
use Rattle.std.specs.Prelude.{◌≡◌, Bool, true, false, List, ℕ, eqb, length, replicate, Result, Ok, Err}
use Rattle.chars.specs.Base.{pick}
use Rattle.syntax.specs.Policy.{Policy, Request}
use Rattle.policy.specs.Reading.{Outcome, refused, known, policy_rules, record_rules, Says}
use Rattle.policy.specs.declared.refusals.Refusal.{Refusal}
use Rattle.policy.specs.declared.refusals.Refusal.TheVariants.{RoomLength, RoomContent, NoAllow}
use Rattle.decision.specs.Decision.{decide}
use Rattle.decision.specs.declared.deciding.Decision.{Decision}
use Rattle.writing.specs.WrittenForm.{written_policy}
use Rattle.restate.specs.Operations.{handed}
use Rattle.rooms.specs.Rooms.{slots, fits, charges, fed, met}
use Rattle.refined.specs.Finishing.{refined_policy, has_allow}

abbrev pub room_numbers : ℕ
room_numbers = 16384

abbrev pub is_room : List ℕ → Bool
is_room xs = eqb (length xs) room_numbers

abbrev pub holds_for : Policy → List ℕ → Bool
holds_for p room = fits (slots p) room

pub data Feeds (policy asked room : List ℕ) : Outcome Decision → List ℕ → Type 0 where
  no_room : is_room room ≡ false → Feeds policy asked room (refused RoomLength) room
  no_policy : {f : Refusal} → is_room room ≡ true → Says policy_rules policy (refused f)
      → Feeds policy asked room (refused f) room
  no_content : {p : Policy} → is_room room ≡ true → Says policy_rules policy (known p) → holds_for p room ≡ false
      → Feeds policy asked room (refused RoomContent) room
  no_record : {p : Policy} {f : Refusal} → is_room room ≡ true → Says policy_rules policy (known p)
      → holds_for p room ≡ true → Says record_rules asked (refused f) → Feeds policy asked room (refused f) room
  feeds : {p : Policy} {r : Request} → is_room room ≡ true → Says policy_rules policy (known p)
      → holds_for p room ≡ true → Says record_rules asked (known r)
      → Feeds policy asked room (known (decide p r)) (fed (slots p) (charges p r) room)

-- an operation that only changes what is lent
pub data Done : Type 0 where
  done : Done

pub data Joins (policy room other : List ℕ) : Outcome Done → List ℕ → Type 0 where
  no_room : is_room room ≡ false → Joins policy room other (refused RoomLength) room
  no_other : is_room room ≡ true → is_room other ≡ false → Joins policy room other (refused RoomLength) room
  no_policy : {f : Refusal} → is_room room ≡ true → is_room other ≡ true → Says policy_rules policy (refused f)
      → Joins policy room other (refused f) room
  no_content : {p : Policy} → is_room room ≡ true → is_room other ≡ true → Says policy_rules policy (known p)
      → holds_for p room ≡ false → Joins policy room other (refused RoomContent) room
  no_other_content : {p : Policy} → is_room room ≡ true → is_room other ≡ true → Says policy_rules policy (known p)
      → holds_for p room ≡ true → holds_for p other ≡ false → Joins policy room other (refused RoomContent) room
  joins : {p : Policy} → is_room room ≡ true → is_room other ≡ true → Says policy_rules policy (known p)
      → holds_for p room ≡ true → holds_for p other ≡ true → Joins policy room other (known done)
      (met (slots p) room other)

pub data Finishes (policy room out : List ℕ) : Outcome ℕ → List ℕ → Type 0 where
  no_room : is_room room ≡ false → Finishes policy room out (refused RoomLength) out
  no_policy : {f : Refusal} → is_room room ≡ true → Says policy_rules policy (refused f)
      → Finishes policy room out (refused f) out
  no_content : {p : Policy} → is_room room ≡ true → Says policy_rules policy (known p) → holds_for p room ≡ false
      → Finishes policy room out (refused RoomContent) out
  no_allow : {p : Policy} → is_room room ≡ true → Says policy_rules policy (known p) → holds_for p room ≡ true
      → has_allow (refined_policy p room) ≡ false → Finishes policy room out (refused NoAllow) out
  finishes : {p : Policy} {x : Outcome ℕ} {after : List ℕ} → is_room room ≡ true → Says policy_rules policy (known p)
      → holds_for p room ≡ true → has_allow (refined_policy p room) ≡ true
      → (x, after) ≡ handed (written_policy (refined_policy p room)) out → Finishes policy room out x after

-- ---- Fresh

unfoldable pub freshened : List ℕ → Outcome Done × List ℕ
freshened room = pick (is_room room) (known done, replicate room_numbers 0) (refused RoomLength, room)

abbrev pub told_done : Result Unit Refusal → Outcome Done
told_done (Ok tt) = known done
told_done (Err f) = refused f
