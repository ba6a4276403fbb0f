-- Outcomes: every operation, on any bytes and numbers, ends with its result or with exactly one refusal; a refused call
-- changes nothing that was lent.
--   Determined before R    of an operation whose promise is R, and what it lends before: there is an outcome, no two differ,
--                          and a refused one leaves what was lent
--   Ends                   demand 1, the six operations;  Answers   demand 2, what the decision is
-- That each refusal is given exactly when document 01's table says, the lowest first, is each relation's own constructors.
use Rattle.std.specs.Prelude.{◌≡◌, List, [], ℕ}
use Rattle.syntax.specs.Policy.{Policy, Request}
use Rattle.policy.specs.Reading.{Outcome, refused, known, policy_rules, record_rules, Says}
use Rattle.policy.specs.declared.refusals.Refusal.{Refusal}
use Rattle.decision.specs.Decision.{decide}
use Rattle.decide.specs.Operations.{Decides}
use Rattle.decision.specs.declared.deciding.Decision.{Decision}
use Rattle.restate.specs.Operations.{Restates}
use Rattle.refine.specs.Operations.{Done, Feeds, Joins, Finishes, freshened}
use Rattle.demands.specs.Logs.{Bytes}

pub record Determined {A : Type 0} (before : List ℕ) (R : Outcome A → List ℕ → Type 0) : Type 0 where
  pub outcome : Outcome A
  pub after : List ℕ
  pub comes : R outcome after
  pub once : (x : Outcome A) (c : List ℕ) → R x c → (x ≡ outcome) × (c ≡ after)
  pub keeps : (f : Refusal) (c : List ℕ) → R (refused f) c → c ≡ before

-- Decide is lent nothing that it could change
pub record DecidesOnly (policy asked : Bytes) (x : Outcome Decision) (after : List ℕ) : Type 0 where
  pub decides : Decides policy asked x
  pub nothing : after ≡ []

pub record Ends (policy asked out : Bytes) (room other : List ℕ) : Type 0 where
  pub decide_ends : Determined [] (DecidesOnly policy asked)
  pub feed_ends : Determined room (Feeds policy asked room)
  pub join_ends : Determined room (Joins policy room other)
  pub finish_ends : Determined out (Finishes policy room out)
  pub restate_ends : Determined out (Restates policy out)
  pub fresh_ends : Determined {A = Done} room (λ x after. (x, after) ≡ freshened room)

abbrev pub AllEnd : Type 0
AllEnd = (policy asked out : Bytes) (room other : List ℕ) → Ends policy asked out room other

-- ---- demand 2: the decision is the defined one on every accepted pair

abbrev pub DecideAnswers : Type 0
DecideAnswers =
    (policy asked : Bytes) (p : Policy) (r : Request) → Says policy_rules policy (known p)
    → Says record_rules asked (known r) → (x : Outcome Decision) → Decides policy asked x → x ≡ known (decide p r)

abbrev pub FeedAnswers : Type 0
FeedAnswers =
    (policy asked : Bytes) (room after : List ℕ) (x : Outcome Decision) → Feeds policy asked room x after
    → (d : Decision) → x ≡ known d → Decides policy asked (known d)
