-- Narrowing: what a refined policy allows, beside the policy that it was made of.
--   is_allowed d        the decision is to allow
--   Narrows            whatever a refined policy allows, the original allows
--   Keeps              whatever record of the log the original allows, the refined policy allows
--   Refines p bs log   the bytes bs read as a policy that does both, beside the policy p
--   WrittenRefines     what Finish writes for a room that comes of a log does so
use Rattle.std.specs.Prelude.{◌≡◌, Bool, true, false, ℕ, take}
use mathlib.Core.List.{List, Memᴰ}
use Rattle.syntax.specs.Policy.{Policy, Request}
use Rattle.policy.specs.Reading.{known, policy_rules, record_rules, Says}
use Rattle.decision.specs.Decision.{decide}
use Rattle.decision.specs.declared.deciding.Decision.{Decision}
use Rattle.decision.specs.declared.deciding.Decision.TheVariants.{Denied, Allowed, Implicit}
use Rattle.refine.specs.Operations.{holds_for, Finishes}
use Rattle.refined.specs.Finishing.{refined_policy}
use Rattle.demands.specs.Logs.{Bytes, Comes}

abbrev pub is_allowed : Decision → Bool
is_allowed (Allowed n) = true
is_allowed (Denied n) = false
is_allowed Implicit = false

-- demand 3: it allows no request that the original does not
abbrev pub Narrows : Type 0
Narrows =
    (p : Policy) (room : List ℕ) → holds_for p room ≡ true → (q : Request)
    → is_allowed (decide (refined_policy p room) q) ≡ true → is_allowed (decide p q) ≡ true

-- demand 3: it allows every accepted record that the original allowed
abbrev pub Keeps : Type 0
Keeps =
    (policy : Bytes) (p : Policy) (log : List Bytes) (room : List ℕ) → Says policy_rules policy (known p)
    → Comes policy log room → (asked : Bytes) → Memᴰ asked log → (r : Request)
    → Says record_rules asked (known r) → is_allowed (decide p r) ≡ true
    → is_allowed (decide (refined_policy p room) r) ≡ true

-- demand 3, of the bytes that are written
pub record Refines (p : Policy) (written : Bytes) (log : List Bytes) : Type 0 where
  pub policy : Policy
  pub reads : Says policy_rules written (known policy)
  pub keeps : (asked : Bytes) → Memᴰ asked log → (r : Request) → Says record_rules asked (known r)
      → is_allowed (decide p r) ≡ true → is_allowed (decide policy r) ≡ true
  pub narrows : (q : Request) → is_allowed (decide policy q) ≡ true → is_allowed (decide p q) ≡ true

abbrev pub WrittenRefines : Type 0
WrittenRefines =
    (policy out after : Bytes) (p : Policy) (log : List Bytes) (room : List ℕ) (n : ℕ) → Says policy_rules policy (known p)
    → Comes policy log room → Finishes policy room out (known n) after → Refines p (take n after) log
