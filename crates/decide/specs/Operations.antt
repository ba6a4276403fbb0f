-- Operations: what Decide answers, for all bytes: document 01, "What is bought", with the refusals in their order.
--   Decides p r x   the policy text p and the record r come to x: the policy's refusal, else the record's, else the
--                   decision
-- Differs from 01: nowhere.  Pinned by: `decides_some` and `decides_unique` of Laws/Operations.
use Rattle.std.specs.Prelude.{List, ℕ}
use Rattle.syntax.specs.Policy.{Policy, Request}
use Rattle.decision.specs.Decision.{decide}
use Rattle.policy.specs.Reading.{Outcome, refused, known, policy_rules, record_rules, Says}
use Rattle.policy.specs.declared.refusals.Refusal.{Refusal}
use Rattle.decision.specs.declared.deciding.Decision.{Decision}

pub data Decides (policy asked : List ℕ) : Outcome Decision → Type 0 where
  policy_refused : {f : Refusal} → Says policy_rules policy (refused f) → Decides policy asked (refused f)
  record_refused : {p : Policy} {f : Refusal} → Says policy_rules policy (known p) → Says record_rules asked (refused f)
      → Decides policy asked (refused f)
  decided : {p : Policy} {r : Request} → Says policy_rules policy (known p) → Says record_rules asked (known r)
      → Decides policy asked (known (decide p r))

-- ---- the record, under a policy that was read

pub data RecordDecides (p : Policy) (asked : List ℕ) : Outcome Decision → Type 0 where
  refuses : {f : Refusal} → Says record_rules asked (refused f) → RecordDecides p asked (refused f)
  decides : {r : Request} → Says record_rules asked (known r) → RecordDecides p asked (known (decide p r))
