-- Statements: what the contracts of `statements` cite besides the layout and the held form.
--   parts_of i x r c     what a statement has besides its effect, from the values of its members
--   statements_of t      one statement or a list of at least one, no two with the same Sid
--   Adds k v t e .. r   what a member of a policy is to those before it, by its word's turn k
--   Frames s v r        a value without a policy's members is told, and one with them is an object
--   HoldableParts ..    so do all that parts_of reads
--   HoldablePolicy ..   a value stands at a place, and the run is at most one number shorter than its cost
use Rattle.std.specs.Prelude.{◌≡◌, Bool, true, false, List, [], ◌++◌, ℕ, ◌+◌, ◌≤◌, length, Option, Some, None}
use Rattle.text.specs.Json.{Json}
use Rattle.text.specs.Contents.{Stands, kind_of}
use Rattle.syntax.specs.Limits.{run_numbers}
use Rattle.syntax.specs.Policy.{Row, Policy}
use Rattle.syntax.specs.Forms.{Reading, wrong, read}
use Rattle.syntax.specs.Words.{edition_word}
use Rattle.syntax.specs.Members.{then, is_word, Slot, optional, one_or_more, differing}
use Rattle.parts.specs.Slots.{Placed}
use Rattle.syntax.specs.PolicyLayout.{action_of, resource_of, condition_of, sid_of, statement_of, same_sid, policy_of}
use Rattle.held.specs.Held.{held_text, held_list, held_row, held}
use Rattle.parts.specs.Room.{cost, cost_of, Roomy}
use Rattle.parts.specs.Holding.{Laid, is_object}
use Rattle.policy.specs.declared.statements.Partly.{Partly}

-- ---- the parts of a statement

pub record Parts : Type 0 where
  pub sid : List ℕ
  pub actions : List (List ℕ)
  pub resources : List (List ℕ)
  pub rows : List Row

unfoldable pub parts_of : Slot → Json → Json → Slot → Reading Parts
parts_of i x r c =
    then (optional [] sid_of i) (λ is.
    then (one_or_more action_of x) (λ xs.
    then (one_or_more resource_of r) (λ rs.
    then (optional [] condition_of c) (λ cs.
    read (record { sid = is; actions = xs; resources = rs; rows = cs })))))

unfoldable pub held_parts : Parts → List ℕ
held_parts p =
    held_text p.sid ++ (held_list held_text p.actions ++
    (held_list held_text p.resources ++ held_list held_row p.rows))

-- ---- the members of a policy

abbrev pub statements_of : Json → Reading Policy
statements_of t = then (one_or_more statement_of t) (differing same_sid)

-- the member t at v is the first Version or the first Statement, and right; a place of 0 is one that has not come
pub data Takes (k v : ℕ) (t : Json) (run run' : List ℕ) (version past version' past' : ℕ) : Type 0 where
  a_version :
      k ≡ 1 → version ≡ 0 → is_word edition_word t ≡ true → version' ≡ v → past' ≡ past → run' ≡ run
      → Takes k v t run run' version past version' past'
  a_statement :
      (k ≡ 0 → ⊥) → (k ≡ 1 → ⊥) → past ≡ 0 → version' ≡ version → Laid held run run' 0 (statements_of t) past'
      → Takes k v t run run' version past version' past'

-- its word is unknown or has come before, or it is wrong
pub data Breaks (k : ℕ) (t : Json) (version past : ℕ) : Type 0 where
  unknown : k ≡ 0 → Breaks k t version past
  version_again : k ≡ 1 → (version ≡ 0 → ⊥) → Breaks k t version past
  version_wrong : k ≡ 1 → version ≡ 0 → is_word edition_word t ≡ false → Breaks k t version past
  statement_again : (k ≡ 0 → ⊥) → (k ≡ 1 → ⊥) → (past ≡ 0 → ⊥) → Breaks k t version past
  statement_wrong : (k ≡ 0 → ⊥) → (k ≡ 1 → ⊥) → past ≡ 0 → statements_of t ≡ wrong → Breaks k t version past

abbrev pub Adds : ℕ → ℕ → Json → ℕ → List ℕ → List ℕ → ℕ → ℕ → Option Partly → Type 0
Adds k v t e run run' version past (Some r) = (Takes k v t run run' version past r.version r.past) × (r.end ≡ e)
Adds k v t e run run' version past None = (length run' ≡ length run) × (Breaks k t version past)

pub record Frames (s : List ℕ) (v : ℕ) (r : Bool) : Type 0 where
  pub not : r ≡ false → (t : Json) (e : ℕ) → Stands s t v e → policy_of t ≡ wrong
  pub object : r ≡ true → (t : Json) (e : ℕ) → Stands s t v e → is_object (kind_of t) ≡ true

-- ---- room

pub record HoldableParts (s : List ℕ) (i x r c : ℕ) (run : List ℕ) (at : ℕ) : Type 0 where
  pub sid : Slot
  pub sid_is : Placed s i sid
  pub action : Json
  pub action_stop : ℕ
  pub action_is : Stands s action x action_stop
  pub resource : Json
  pub resource_stop : ℕ
  pub resource_is : Stands s resource r resource_stop
  pub condition : Slot
  pub condition_is : Placed s c condition
  pub roomy : Roomy run at (1 + cost_of sid + (1 + cost action) + (1 + cost resource) + (1 + cost_of condition))

pub record HoldablePolicy (s : List ℕ) (v : ℕ) (run : List ℕ) : Type 0 where
  pub what : Json
  pub stop : ℕ
  pub is : Stands s what v stop
  pub room : cost what ≤ length run + 1
  pub bounded : length run ≤ run_numbers
