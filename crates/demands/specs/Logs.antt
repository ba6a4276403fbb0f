-- Logs: records fed one behind the other, walked in parts, and rooms joined.
--   Walks policy room log after   the records of the log fed to the room one behind the other; a refused one leaves it
--   Comes policy log room         the room comes of the log's records: walked from an empty room, or two such rooms
--                                 joined
--   SameRecords a b               the same records, whatever their order and however often each
use Rattle.std.specs.Prelude.{◌≡◌, ℕ, replicate}
use mathlib.Core.List.{List, [], ◌∷◌, ◌++◌, Memᴰ}
use Rattle.policy.specs.Reading.{Outcome, known}
use Rattle.decision.specs.declared.deciding.Decision.{Decision}
use Rattle.refine.specs.Operations.{room_numbers, Feeds, Joins, Finishes, done}

abbrev pub Bytes : Type 0
Bytes = List ℕ

-- what Fresh leaves
unfoldable pub empty_room : List ℕ
empty_room = replicate room_numbers 0

pub data Walks (policy : Bytes) : List ℕ → List Bytes → List ℕ → Type 0 where
  walked : {room : List ℕ} → Walks policy room [] room
  fed : {room mid after : List ℕ} {asked : Bytes} {log : List Bytes} {x : Outcome Decision}
      → Feeds policy asked room x mid → Walks policy mid log after → Walks policy room (asked ∷ log) after

pub data Comes (policy : Bytes) : List Bytes → List ℕ → Type 0 where
  walk : {log : List Bytes} {room : List ℕ} → Walks policy empty_room log room → Comes policy log room
  join : {a b : List Bytes} {room other after : List ℕ} → Comes policy a room → Comes policy b other
      → Joins policy room other (known done) after → Comes policy (a ++ b) after

pub record SameRecords (a b : List Bytes) : Type 0 where
  pub to : (r : Bytes) → Memᴰ r a → Memᴰ r b
  pub from : (r : Bytes) → Memᴰ r b → Memᴰ r a

-- ---- demand 3: cut a log anywhere, walk the parts apart, join the rooms in any order and with repeats: the same policy is
-- written, or refused alike

abbrev pub SameRoom : Type 0
SameRoom =
    (policy : Bytes) (a b : List Bytes) (room other : List ℕ) → Comes policy a room → Comes policy b other
    → SameRecords a b → room ≡ other

abbrev pub SameResult : Type 0
SameResult =
    (policy out : Bytes) (a b : List Bytes) (room other : List ℕ) → Comes policy a room → Comes policy b other
    → SameRecords a b → (x y : Outcome ℕ) (c d : Bytes) → Finishes policy room out x c → Finishes policy other out y d
    → (x ≡ y) × (c ≡ d)
