-- Sound: what is known of a policy and of a request once they were read, and what an operation on a room comes to then.
--   Sound p             the policy is valid and within its limits;  ShortRequest q   the texts of q are within theirs
--   HeldSound, HeldShort, Holding   such things lie at a run's beginning; and a room is such a policy's
--   Kept                a policy that was read, its room, and a run for requests: what is lent from one record to the next
--   PolicyFeeds ..      Feed, Join and Finish under a policy that was read: their relations, but for 1 to 5
use Rattle.std.specs.Prelude.{◌≡◌, true, false, List, ℕ, ◌≤◌, length}
use Rattle.syntax.specs.Limits.{entry_characters}
use Rattle.syntax.specs.Policy.{Policy, Context, Request}
use Rattle.held.specs.Held.{held, held_request, over_limit}
use Rattle.held.specs.Lying.{Lies}
use Rattle.policy.specs.Reading.{Outcome, refused, known, record_rules, Says}
use Rattle.policy.specs.declared.refusals.Refusal.{Refusal}
use Rattle.policy.specs.declared.refusals.Refusal.TheVariants.{RoomContent, NoAllow}
use Rattle.decision.specs.Decision.{decide}
use Rattle.decision.specs.declared.deciding.Decision.{Decision}
use Rattle.writing.specs.Valid.{Each, Valid}
use Rattle.writing.specs.WrittenForm.{written_policy}
use Rattle.restate.specs.Operations.{handed}
use Rattle.rooms.specs.Rooms.{slots, charges, fed, met}
use Rattle.rooms.specs.Walking.{Short}
use Rattle.refined.specs.Finishing.{refined_policy, has_allow}
use Rattle.refine.specs.Operations.{is_room, holds_for, Done, done}

pub record Sound (p : Policy) : Type 0 where
  pub valid : Valid p
  pub limits : over_limit p ≡ false

pub record ShortRequest (q : Request) : Type 0 where
  pub action : length q.action ≤ entry_characters
  pub resource : length q.resource ≤ entry_characters
  pub context : Each Context (λ c. Short c.value) q.context

pub record HeldSound (run : List ℕ) : Type 0 where
  pub policy : Policy
  pub lies : Lies run 0 (held policy)
  pub sound : Sound policy

-- and the room holds what that policy's can
pub record Holding (run room : List ℕ) : Type 0 where
  pub held_sound : HeldSound run
  pub size : is_room room ≡ true
  pub content : holds_for held_sound.policy room ≡ true

-- enough for every record that may be read, and one number more
abbrev pub request_numbers : ℕ
request_numbers = 8448

pub record Kept (run request room : List ℕ) : Type 0 where
  pub holding : Holding run room
  pub size : length request ≡ request_numbers

pub record HeldShort (run : List ℕ) : Type 0 where
  pub request : Request
  pub lies : Lies run 0 (held_request request)
  pub short : ShortRequest request

pub data PolicyFeeds (p : Policy) (asked room : List ℕ) : Outcome Decision → List ℕ → Type 0 where
  no_content : holds_for p room ≡ false → PolicyFeeds p asked room (refused RoomContent) room
  no_record : {f : Refusal} → holds_for p room ≡ true → Says record_rules asked (refused f)
      → PolicyFeeds p asked room (refused f) room
  feeds : {r : Request} → holds_for p room ≡ true → Says record_rules asked (known r)
      → PolicyFeeds p asked room (known (decide p r)) (fed (slots p) (charges p r) room)

pub data PolicyJoins (p : Policy) (room other : List ℕ) : Outcome Done → List ℕ → Type 0 where
  no_content : holds_for p room ≡ false → PolicyJoins p room other (refused RoomContent) room
  no_other_content : holds_for p room ≡ true → holds_for p other ≡ false
      → PolicyJoins p room other (refused RoomContent) room
  joins : holds_for p room ≡ true → holds_for p other ≡ true
      → PolicyJoins p room other (known done) (met (slots p) room other)

pub data PolicyFinishes (p : Policy) (room out : List ℕ) : Outcome ℕ → List ℕ → Type 0 where
  no_content : holds_for p room ≡ false → PolicyFinishes p room out (refused RoomContent) out
  no_allow : holds_for p room ≡ true → has_allow (refined_policy p room) ≡ false
      → PolicyFinishes p room out (refused NoAllow) out
  finishes : {x : Outcome ℕ} {after : List ℕ} → holds_for p room ≡ true → has_allow (refined_policy p room) ≡ true
      → (x, after) ≡ handed (written_policy (refined_policy p room)) out → PolicyFinishes p room out x after
