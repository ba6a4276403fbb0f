-- Again: what Finish writes reads back as the refined policy, whatever characters it holds, and within every limit.
use Rattle.std.specs.Prelude.{ℕ, List, take}
use Rattle.syntax.specs.Policy.{Policy}
use Rattle.policy.specs.Reading.{known, policy_rules, Says}
use Rattle.refine.specs.Operations.{Finishes}
use Rattle.refined.specs.Finishing.{refined_policy}
use Rattle.demands.specs.Logs.{Bytes}

-- demand 2: of Restate it is `RestatesAgain` in crates/restate/specs/Restating.antt
abbrev pub FinishAgain : Type 0
FinishAgain =
    (policy out after : Bytes) (room : List ℕ) (n : ℕ) (p : Policy) → Says policy_rules policy (known p)
    → Finishes policy room out (known n) after → Says policy_rules (take n after) (known (refined_policy p room))
