-- Room: numbers that a value may need while it is held, told by the bytes that it stands in at least.
--   cost t          those bytes and the one behind them; costs, costm: of elements, of members
--   Holdable ..     a value stands at a place, and the run has room behind another for n numbers and its cost
-- Pinned by: Laws/Room (`cost_within`: a value's cost is within its bytes).
use Rattle.std.specs.Prelude.{List, ℕ, ◌+◌, ◌≤◌, ◌<◌, length}
use Rattle.chars.specs.Base.{part}
use Rattle.text.specs.Json.{Json, null, bool, number, string, list, object, Values, no_more, also, Members}
use Rattle.text.specs.Json.{no_members, named}
use Rattle.text.specs.Contents.{Stands}
use Rattle.syntax.specs.Limits.{run_numbers}
use Rattle.syntax.specs.Members.{Slot, none, many, one}
use Rattle.parts.specs.Slots.{Placed}

unfoldable mutual
  pub cost : Json → ℕ
  cost null = 5
  cost (bool b) = 5
  cost (number w) = length w + 1
  cost (string w) = length w + 3
  cost (list ts) = 2 + costs ts
  cost (object ms) = 2 + costm ms

  pub costs : Values → ℕ
  costs no_more = 0
  costs (also t ts) = cost t + costs ts

  pub costm : Members → ℕ
  costm no_members = 0
  costm (named w t ms) = length w + 3 + cost t + costm ms

-- room for n numbers behind place at of a run that is no longer than runs are
pub record Roomy (run : List ℕ) (at n : ℕ) : Type 0 where
  pub room : at + n ≤ length run
  pub bounded : length run ≤ run_numbers

pub record Holdable (s : List ℕ) (v : ℕ) (run : List ℕ) (at n : ℕ) : Type 0 where
  pub what : Json
  pub stop : ℕ
  pub is : Stands s what v stop
  pub roomy : Roomy run at (n + cost what)

pub record HoldableList (s : List ℕ) (v : ℕ) (run : List ℕ) (at : ℕ) : Type 0 where
  pub what : Values
  pub stop : ℕ
  pub is : Stands s (list what) v stop
  pub roomy : Roomy run at (costs what)

pub record HoldableObject (s : List ℕ) (v : ℕ) (run : List ℕ) (at : ℕ) : Type 0 where
  pub what : Members
  pub stop : ℕ
  pub is : Stands s (object what) v stop
  pub roomy : Roomy run at (costm what)

abbrev pub cost_of : Slot → ℕ
cost_of none = 0
cost_of many = 0
cost_of (one t) = cost t

-- a member that is absent or stands at v, with n numbers beside its cost
pub record HoldableSlot (s : List ℕ) (v : ℕ) (run : List ℕ) (at n : ℕ) : Type 0 where
  pub what : Slot
  pub is : Placed s v what
  pub roomy : Roomy run at (n + cost_of what)

-- a member: its raw name and its value, which stands at v
pub record HoldableMember (s : List ℕ) (n m v : ℕ) (run : List ℕ) (at : ℕ) : Type 0 where
  pub what : Json
  pub stop : ℕ
  pub is : Stands s what v stop
  pub order : n ≤ m
  pub inside : m < length s
  pub roomy : Roomy run at (length (part s n m) + 3 + cost what)
