-- Rooms: document 01, "What is bought" and "Charging and candidates": the rows of a policy's room, 256 numbers for each
-- entry in reading order, and what Feed and Join make of them.
--   slots p         the entries of a policy in reading order, each with its place and its statement's effect
--   fits ss xs      the numbers xs are rows that the slots can have, and zeros behind them; where not, 6 is given
--   charges p r     for each slot the value that the request r charges to it, if it does
--   fed ss vs xs    the rows xs once the values vs are charged;  found_at k vs, row_at k xs   of the k-th slot
--   met ss xs ys    the rows of two rooms, joined row by row
-- Differs from 01: nowhere.
use Rattle.std.specs.Prelude.{Bool, List, [], ◌∷◌, ◌++◌, map, ℕ, zero, suc, ◌*◌, take, drop}
use Rattle.chars.specs.Base.{pick}
use Rattle.syntax.specs.Forms.{both}
use Rattle.syntax.specs.Policy.{Effect, Allow, Value, text, Row, Statement, Policy, Context, Request}
use Rattle.decision.specs.Decision.{Found, nothing, found, value_at, part_of, is_none, same_effect, decide}
use Rattle.decision.specs.declared.deciding.Decision.{Decision}
use Rattle.decision.specs.declared.deciding.Decision.TheVariants.{Denied, Allowed, Implicit}
use Rattle.candidates.specs.Candidates.{Kind, joined, charged}
use Rattle.candidates.specs.Entries.{Place, in_action, in_resource, in_row, meets_at, kind_of}
use Rattle.candidates.specs.Rows.{row_numbers, row, content_of, is_row, is_zero}

-- ---- entries in reading order

pub record Slot : Type 0 where
  pub effect : Effect
  pub place : Place
  pub entry : Value

abbrev pub slots_at : Effect → Place → List Value → List Slot
slots_at e p xs = map (λ x. record { effect = e; place = p; entry = x }) xs

unfoldable pub row_slots : Effect → List Row → List Slot
row_slots e [] = []
row_slots e (r ∷ rs) = slots_at e (in_row r.operator) r.entries ++ row_slots e rs

unfoldable pub statement_slots : Statement → List Slot
statement_slots s =
    slots_at s.effect in_action (map text s.actions)
    ++ (slots_at s.effect in_resource (map text s.resources) ++ row_slots s.effect s.rows)

unfoldable pub slots : Policy → List Slot
slots [] = []
slots (s ∷ p) = statement_slots s ++ slots p

abbrev pub slot_kind : Slot → Kind
slot_kind s = kind_of s.place s.entry

-- ---- what a room can hold

-- an Allow entry's row is empty or holds a candidate of it; a Deny entry's is zero
abbrev pub row_fits : Slot → List ℕ → Bool
row_fits s xs = pick (same_effect s.effect Allow) (is_row (slot_kind s) xs) (is_zero xs)

unfoldable pub fits : List Slot → List ℕ → Bool
fits [] xs = is_zero xs
fits (s ∷ ss) xs = both (row_fits s (take row_numbers xs)) (fits ss (drop row_numbers xs))

-- ---- charging

-- the value, at each entry of its list that matches it
abbrev pub hit : Place → Found → Value → Found
hit p nothing x = nothing
hit p (found v) x = pick (meets_at p x v) (found v) nothing

abbrev pub hits : Place → Found → List Value → List Found
hits p v xs = map (hit p v) xs

unfoldable pub row_hits : List Row → List Context → List Found
row_hits [] cs = []
row_hits (r ∷ rs) cs = hits (in_row r.operator) (value_at r.key cs) r.entries ++ row_hits rs cs

unfoldable pub statement_hits : Statement → Request → List Found
statement_hits s r =
    hits in_action (found (text r.action)) (map text s.actions)
    ++ (hits in_resource (found (text r.resource)) (map text s.resources) ++ row_hits s.rows r.context)

abbrev pub none : List Slot → List Found
none ss = map (λ s. nothing) ss

-- an Allow statement that matches
abbrev pub is_charged : Statement → Request → Bool
is_charged s r = both (same_effect s.effect Allow) (is_none (part_of s r))

unfoldable pub statement_charges : Statement → Request → List Found
statement_charges s r = pick (is_charged s r) (statement_hits s r) (none (statement_slots s))

unfoldable pub allowed_charges : Policy → Request → List Found
allowed_charges [] r = []
allowed_charges (s ∷ p) r = statement_charges s r ++ allowed_charges p r

-- a record that the policy does not allow changes no row
abbrev pub by_decision : Decision → Policy → Request → List Found
by_decision (Allowed n) p r = allowed_charges p r
by_decision (Denied n) p r = none (slots p)
by_decision Implicit p r = none (slots p)

unfoldable pub charges : Policy → Request → List Found
charges p r = by_decision (decide p r) p r

abbrev pub row_fed : Slot → Found → List ℕ → List ℕ
row_fed s nothing xs = xs
row_fed s (found v) xs = row (charged (slot_kind s) (content_of xs) v)

unfoldable pub fed : List Slot → List Found → List ℕ → List ℕ
fed [] vs xs = xs
fed (s ∷ ss) [] xs = xs
fed (s ∷ ss) (v ∷ vs) xs = row_fed s v (take row_numbers xs) ++ fed ss vs (drop row_numbers xs)

-- the value charged to the k-th slot, and that slot's row
unfoldable pub found_at : ℕ → List Found → Found
found_at k [] = nothing
found_at zero (f ∷ fs) = f
found_at (suc k) (f ∷ fs) = found_at k fs

abbrev pub row_at : ℕ → List ℕ → List ℕ
row_at k room = take row_numbers (drop (row_numbers * k) room)

-- ---- joining

abbrev pub row_met : Slot → List ℕ → List ℕ → List ℕ
row_met s xs ys = row (joined (slot_kind s) (content_of xs) (content_of ys))

unfoldable pub met : List Slot → List ℕ → List ℕ → List ℕ
met [] xs ys = xs
met (s ∷ ss) xs ys = row_met s (take row_numbers xs) (take row_numbers ys) ++ met ss (drop row_numbers xs)
    (drop row_numbers ys)
