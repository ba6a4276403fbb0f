-- Charges: what a log's records charge to each entry of a policy.
--   At k ss s            the k-th slot is s
--   Charged p log k v    a record of the log charges the value v to the k-th entry of p
--   HeldLeast            each row of a room that comes of a log holds the least candidate of what the log charges to its
--                        entry, and nothing where it charges nothing
--   NoNarrower           no candidate of the entry that covers what was charged matches less
use Rattle.std.specs.Prelude.{◌≡◌, true, ℕ, suc}
use mathlib.Core.List.{List, ◌∷◌, Memᴰ}
use Rattle.syntax.specs.Policy.{Value, Policy, Request}
use Rattle.policy.specs.Reading.{known, policy_rules, record_rules, Says}
use Rattle.decision.specs.Decision.{found}
use Rattle.candidates.specs.Candidates.{Candidate, holds, Covers, Under, Holds}
use Rattle.candidates.specs.Rows.{content_of}
use Rattle.rooms.specs.Rooms.{Slot, slot_kind, slots, charges, found_at, row_at}
use Rattle.demands.specs.Logs.{Bytes, Comes}

pub data At : ℕ → List Slot → Slot → Type 0 where
  here : {s : Slot} {ss : List Slot} → At 0 (s ∷ ss) s
  there : {k : ℕ} {s t : Slot} {ss : List Slot} → At k ss s → At (suc k) (t ∷ ss) s

pub record Charged (p : Policy) (log : List Bytes) (k : ℕ) (v : Value) : Type 0 where
  pub asked : Bytes
  pub among : Memᴰ asked log
  pub request : Request
  pub says : Says record_rules asked (known request)
  pub charges_it : found_at k (charges p request) ≡ found v

-- ---- demand 3: no entry could be narrower in the candidate space

abbrev pub HeldLeast : Type 0
HeldLeast =
    (policy : Bytes) (p : Policy) (log : List Bytes) (room : List ℕ) → Says policy_rules policy (known p)
    → Comes policy log room → (k : ℕ) (s : Slot) → At k (slots p) s
    → Holds (slot_kind s) (Charged p log k) (content_of (row_at k room))

abbrev pub NoNarrower : Type 0
NoNarrower =
    (policy : Bytes) (p : Policy) (log : List Bytes) (room : List ℕ) → Says policy_rules policy (known p)
    → Comes policy log room → (k : ℕ) (s : Slot) → At k (slots p) s
    → (c d : Candidate) → content_of (row_at k room) ≡ holds c → (slot_kind s).is d ≡ true
    → ((v : Value) → Charged p log k v → Covers (slot_kind s) d v) → Under (slot_kind s) d c → d ≡ c
