-- Restating: what Restate promises of its outcomes, as statements; Laws/Operations proves each under its name.
--   Again policy written   written reads as the policy that the text says: it is restated alike, and decides alike
use Rattle.std.specs.Prelude.{◌≡◌, List, ℕ, take}
use Rattle.syntax.specs.Policy.{Policy}
use Rattle.policy.specs.Reading.{Outcome, refused, known, policy_rules, Says}
use Rattle.policy.specs.declared.refusals.Refusal.{Refusal}
use Rattle.decide.specs.Operations.{Decides}
use Rattle.decision.specs.declared.deciding.Decision.{Decision}
use Rattle.restate.specs.Operations.{Restates}

-- all bytes and every output come to an outcome, and to no other
pub record Outcomes (policy out : List ℕ) : Type 0 where
  pub answer : Outcome ℕ
  pub after : List ℕ
  pub restates : Restates policy out answer after

abbrev pub RestatesSome : Type 0
RestatesSome = (policy out : List ℕ) → Outcomes policy out

abbrev pub RestatesUnique : Type 0
RestatesUnique =
    (policy out : List ℕ) (x y : Outcome ℕ) (after behind : List ℕ) → Restates policy out x after
    → Restates policy out y behind → ◌≡◌ {A = Outcome ℕ × List ℕ} (x, after) (y, behind)

-- a refused call leaves the output as it was
abbrev pub RefusedKeeps : Type 0
RefusedKeeps = (policy out after : List ℕ) (f : Refusal) → Restates policy out (refused f) after → after ≡ out

-- what is written reads back as the same policy, whatever characters it holds
pub record Again (policy written : List ℕ) : Type 0 where
  pub thing : Policy
  pub reads : Says policy_rules policy (known thing)
  pub reads_back : Says policy_rules written (known thing)
  pub restated : (out : List ℕ) (x : Outcome ℕ) (after : List ℕ) → Restates policy out x after
      → Restates written out x after
  pub decided : (asked : List ℕ) (x : Outcome Decision) → Decides policy asked x → Decides written asked x

abbrev pub RestatesAgain : Type 0
RestatesAgain =
    (policy out after : List ℕ) (n : ℕ) → Restates policy out (known n) after → Again policy (take n after)
