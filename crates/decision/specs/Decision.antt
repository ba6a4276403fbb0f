-- The decision: document 01, "The decision".
--   row_result r cs   whether a row holds for the context entries cs, and if not why: key missing, of another type, or
--                    no entry matches
--   part_of s r       the first part of the statement s that does not hold for the request r, rows counted from 1;
--                    `none` where the statement matches
--   decide p r       denied or allowed by a statement, counted from 1; or implicitly denied
-- Differs from 01: nowhere.  Pinned by: Laws/DecidingTrials.
use Rattle.std.specs.Prelude.{Bool, true, false, List, [], ◌∷◌, ℕ, zero, suc, leb}
use Rattle.chars.specs.Base.{pick}
use Rattle.syntax.specs.Policy.{Effect, Allow, Deny, Operator, StringEquals, StringLike, NumericLessThanEquals}
use Rattle.syntax.specs.Policy.{Value, text, number, Row, Statement, Policy, Context, Request}
use Rattle.syntax.specs.Forms.{same, same_key}
use Rattle.held.specs.Held.{any_of}
use Rattle.decision.specs.Matching.{matches}
use Rattle.decision.specs.declared.deciding.Decision.{Decision}
use Rattle.decision.specs.declared.deciding.Decision.TheVariants.{Denied, Allowed, Implicit}

-- ---- entries

-- the type of value that an operator compares with
abbrev pub typed : Operator → Value → Bool
typed StringEquals (text cs) = true
typed StringEquals (number n) = false
typed StringLike (text cs) = true
typed StringLike (number n) = false
typed NumericLessThanEquals (text cs) = false
typed NumericLessThanEquals (number n) = true

-- an entry of a row and the record's value: the same text; matched; not above
abbrev pub meets : Operator → Value → Value → Bool
meets StringEquals (text xs) (text cs) = same xs cs
meets StringEquals (text xs) (number m) = false
meets StringEquals (number n) (text cs) = false
meets StringEquals (number n) (number m) = false
meets StringLike (text xs) (text cs) = matches xs cs
meets StringLike (text xs) (number m) = false
meets StringLike (number n) (text cs) = false
meets StringLike (number n) (number m) = false
meets NumericLessThanEquals (text xs) (text cs) = false
meets NumericLessThanEquals (text xs) (number m) = false
meets NumericLessThanEquals (number n) (text cs) = false
meets NumericLessThanEquals (number n) (number m) = leb m n

-- ---- rows

pub data Why : Type 0 where
  missing other_type no_entry : Why

pub data Result : Type 0 where
  holds : Result
  fails : Why → Result

pub data Found : Type 0 where
  nothing : Found
  found : Value → Found

-- the value of a key
unfoldable pub value_at : List ℕ → List Context → Found
value_at k [] = nothing
value_at k (c ∷ cs) = pick (same_key k c.key) (found c.value) (value_at k cs)

abbrev pub result_with : Row → Found → Result
result_with r nothing = fails missing
result_with r (found v) =
    pick (typed r.operator v)
    (pick (any_of (λ x. meets r.operator x v) r.entries) holds (fails no_entry))
    (fails other_type)

unfoldable pub row_result : Row → List Context → Result
row_result r cs = result_with r (value_at r.key cs)

-- ---- statements

pub data Part : Type 0 where
  none action resource : Part
  row : ℕ → Why → Part

abbrev pub behind_row : ℕ → Result → Part → Part
behind_row k holds rest = rest
behind_row k (fails w) rest = row k w

unfoldable pub rows_from : ℕ → List Row → List Context → Part
rows_from k [] cs = none
rows_from k (r ∷ rs) cs = behind_row k (row_result r cs) (rows_from (suc k) rs cs)

unfoldable pub part_of : Statement → Request → Part
part_of s r =
    pick (any_of (λ e. matches e r.action) s.actions)
    (pick (any_of (λ e. matches e r.resource) s.resources) (rows_from 1 s.rows r.context) resource)
    action

abbrev pub is_none : Part → Bool
is_none none = true
is_none action = false
is_none resource = false
is_none (row k w) = false

-- ---- the policy

abbrev pub same_effect : Effect → Effect → Bool
same_effect Allow Allow = true
same_effect Allow Deny = false
same_effect Deny Allow = false
same_effect Deny Deny = true

-- the first statement of an effect that matches, counted from k; 0 where none does
unfoldable pub first_of : Effect → Policy → Request → ℕ → ℕ
first_of e [] r k = 0
first_of e (s ∷ p) r k =
    pick (same_effect e s.effect) (pick (is_none (part_of s r)) k (first_of e p r (suc k))) (first_of e p r (suc k))

abbrev pub by_allow : ℕ → Decision
by_allow zero = Implicit
by_allow (suc k) = Allowed (suc k)

abbrev pub by_deny : ℕ → ℕ → Decision
by_deny zero a = by_allow a
by_deny (suc k) a = Denied (suc k)

unfoldable pub decide : Policy → Request → Decision
decide p r = by_deny (first_of Deny p r 1) (first_of Allow p r 1)
