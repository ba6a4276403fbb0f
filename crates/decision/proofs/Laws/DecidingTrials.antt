-- Policies, requests and what is decided: both sides of each clause as one list about the definition, computed.
use mathlib.Core.Path.{◌≡◌, refl}
use mathlib.Core.Bool.{Bool, true}
use mathlib.Core.List.{List, [], ◌∷◌}
use Prim.Native.Nat.{ℕ}
use Rattle.syntax.specs.Policy.{star, Effect, Allow, Deny, Operator, StringEquals, StringLike}
use Rattle.syntax.specs.Policy.{NumericLessThanEquals, Value, text, number, Row, Statement, Policy, Request}
use Rattle.syntax.specs.Forms.{both, same, lower, same_key}
use Rattle.decision.specs.Matching.{some_ending, first, matches}
use Rattle.held.specs.Held.{any_of}
use Rattle.decision.specs.Decision.{Why, missing, other_type, no_entry, Part, none, action, resource, row}
use Rattle.decision.specs.Decision.{value_at, row_result, rows_from, part_of, first_of, decide}
use Rattle.decision.specs.declared.deciding.Decision.{Decision}
use Rattle.decision.specs.declared.deciding.Decision.TheVariants.{Denied, Allowed, Implicit}

data Trial : Type 0 where
  decides : Policy → Request → Decision → Trial
  fails_at : Statement → Request → Part → Trial

decision_numbers : Decision → List ℕ
decision_numbers Implicit = []
decision_numbers (Allowed k) = 1 ∷ k ∷ []
decision_numbers (Denied k) = 2 ∷ k ∷ []

why_number : Why → ℕ
why_number missing = 1
why_number other_type = 2
why_number no_entry = 3

part_numbers : Part → List ℕ
part_numbers none = []
part_numbers action = 1 ∷ []
part_numbers resource = 2 ∷ []
part_numbers (row k w) = 3 ∷ k ∷ why_number w ∷ []

holds : Trial → Bool
holds (decides p r x) = same (decision_numbers (decide p r)) (decision_numbers x)
holds (fails_at s r x) = same (part_numbers (part_of s r)) (part_numbers x)

all_hold : List Trial → Bool
all_hold [] = true
all_hold (x ∷ xs) = both (holds x) (all_hold xs)

-- the request asks for the action a on the resource b, with the key kk as a text and nn as a number
asked : Request
asked =
    record {
      action = 97 ∷ [];
      resource = 98 ∷ [];
      context = record { key = 107 ∷ 107 ∷ []; value = text (99 ∷ 100 ∷ []) }
          ∷ record { key = 110 ∷ 110 ∷ []; value = number 5000000000 } ∷ [];
    }

to : Effect → List (List ℕ) → List (List ℕ) → List Row → Statement
to e xs ys rs = record { sid = []; effect = e; actions = xs; resources = ys; rows = rs }

-- matched by its second entry; not matched
matching : Effect → Statement
matching e = to e ((120 ∷ []) ∷ (97 ∷ []) ∷ []) ((98 ∷ []) ∷ []) []

apart : Effect → Statement
apart e = to e ((120 ∷ []) ∷ []) ((98 ∷ []) ∷ []) []

with_rows : List Row → Statement
with_rows rs = to Allow ((star ∷ []) ∷ []) ((star ∷ []) ∷ []) rs

under : Operator → List ℕ → List Value → Row
under o k vs = record { operator = o; key = k; entries = vs }

trials : List Trial
trials =
    -- a Deny that matches decides wherever it stands, the first of them
    (decides (matching Allow ∷ matching Deny ∷ []) asked (Denied 2)) ∷
    (decides (matching Deny ∷ matching Allow ∷ matching Deny ∷ []) asked (Denied 1)) ∷
    (decides (apart Deny ∷ matching Deny ∷ matching Deny ∷ []) asked (Denied 2)) ∷
    -- without one, the first Allow that matches
    (decides (matching Allow ∷ apart Deny ∷ matching Allow ∷ []) asked (Allowed 1)) ∷
    (decides (apart Allow ∷ matching Allow ∷ []) asked (Allowed 2)) ∷
    -- without either, none
    (decides [] asked Implicit) ∷
    (decides (apart Allow ∷ apart Deny ∷ []) asked Implicit) ∷
    -- the Action is looked at first, then the Resource
    (fails_at (to Allow ((98 ∷ []) ∷ []) ((97 ∷ []) ∷ []) []) asked action) ∷
    (fails_at (to Allow ((97 ∷ []) ∷ []) ((97 ∷ []) ∷ []) []) asked resource) ∷
    (fails_at (to Allow ((97 ∷ []) ∷ []) ((98 ∷ []) ∷ []) []) asked none) ∷
    -- a missing key satisfies no row; a key is the same whatever its case
    (fails_at (with_rows (under StringLike (107 ∷ []) (text (star ∷ []) ∷ []) ∷ [])) asked (row 1 missing)) ∷
    (fails_at (with_rows (under StringLike (75 ∷ 107 ∷ []) (text (star ∷ []) ∷ []) ∷ [])) asked none) ∷
    -- a value of another type
    (fails_at (with_rows (under StringLike (110 ∷ 110 ∷ []) (text (star ∷ []) ∷ []) ∷ [])) asked (row 1 other_type)) ∷
    (fails_at (with_rows (under NumericLessThanEquals (107 ∷ 107 ∷ []) (number 9 ∷ []) ∷ [])) asked
    (row 1 other_type)) ∷
    -- one entry is enough; StringEquals wants the whole text
    (fails_at (with_rows (under StringEquals (107 ∷ 107 ∷ []) (text (99 ∷ []) ∷ text (99 ∷ 100 ∷ []) ∷ []) ∷ [])) asked
    none) ∷
    (fails_at (with_rows (under StringEquals (107 ∷ 107 ∷ []) (text (99 ∷ []) ∷ []) ∷ [])) asked (row 1 no_entry)) ∷
    -- a value not above the entry: the same, one below, one above
    (fails_at (with_rows (under NumericLessThanEquals (110 ∷ 110 ∷ []) (number 5000000000 ∷ []) ∷ [])) asked none) ∷
    (fails_at (with_rows (under NumericLessThanEquals (110 ∷ 110 ∷ []) (number 4999999999 ∷ []) ∷ [])) asked
    (row 1 no_entry)) ∷
    (fails_at (with_rows (under NumericLessThanEquals (110 ∷ 110 ∷ []) (number 5000000001 ∷ []) ∷ [])) asked none) ∷
    -- every row must hold, and the first that does not is told
    (fails_at
    (with_rows
    (under StringLike (107 ∷ 107 ∷ []) (text (star ∷ []) ∷ [])
    ∷ under StringLike (107 ∷ []) (text (star ∷ []) ∷ [])
    ∷ under StringEquals (107 ∷ 107 ∷ []) (text [] ∷ []) ∷ []))
    asked
    (row 2 missing)) ∷
    []

trials_hold : all_hold trials ≡ true
unfolding same lower same_key some_ending first matches any_of value_at row_result rows_from part_of first_of decide why_number
    decision_numbers part_numbers holds all_hold asked to matching apart with_rows under trials
trials_hold = refl
