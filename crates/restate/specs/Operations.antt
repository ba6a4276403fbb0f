-- Operations: what Restate answers and leaves, for all bytes and every output lent: document 01, "What is bought", with
-- the refusals in their order.
--   handed bs out            a result bs for an output: 11 over the limit, 12 where the output is shorter, and the output
--                            as it was; else how many bytes, and the output with bs at its beginning
--   Restates p out x after   the policy text p comes to x, and out to after
-- Differs from 01: nowhere.  Pinned by: `restates_some` and `restates_unique` of Laws/Operations.
use Rattle.std.specs.Prelude.{◌≡◌, List, ℕ, ltb, length}
use Rattle.chars.specs.Base.{pick}
use Rattle.chars.specs.Putting.{lay}
use Rattle.syntax.specs.Limits.{result_bytes}
use Rattle.syntax.specs.Policy.{Policy}
use Rattle.policy.specs.Reading.{Outcome, refused, known, policy_rules, Says}
use Rattle.policy.specs.declared.refusals.Refusal.{Refusal}
use Rattle.policy.specs.declared.refusals.Refusal.TheVariants.{ResultLength, OutputLength}
use Rattle.writing.specs.WrittenForm.{written_policy}

unfoldable pub handed : List ℕ → List ℕ → Outcome ℕ × List ℕ
handed bs out =
    pick (ltb result_bytes (length bs)) (refused ResultLength, out)
    (pick (ltb (length out) (length bs)) (refused OutputLength, out)
    (known (length bs), lay bs out))

pub data Restates (policy out : List ℕ) : Outcome ℕ → List ℕ → Type 0 where
  policy_refused : {f : Refusal} → Says policy_rules policy (refused f) → Restates policy out (refused f) out
  restated : {p : Policy} {x : Outcome ℕ} {after : List ℕ} → Says policy_rules policy (known p)
      → (x, after) ≡ handed (written_policy p) out → Restates policy out x after
