-- Slots of lists, rows, statements and policies: how many they are, and what is charged to them.
use mathlib.Core.Path.{◌≡◌, refl, sym, ap, ◌∙◌}
use mathlib.Core.Bool.{Bool, true, false, not, true≢false}
use mathlib.Core.List.{List, [], ◌∷◌, ◌++◌, map}
use Prim.Native.Nat.{ℕ}
use native.Mathlib.Omega.{arith}
use lib.Dec.{eqb}
use lib.ListN.{length, length-append, length-map}
use Rattle.chars.specs.Base.{pick}
use Rattle.syntax.specs.Forms.{both}
use Rattle.syntax.specs.Policy.{Effect, Allow, Deny, Value, text, Row, Statement, Policy, Request}
use Rattle.held.specs.Held.{effect_number, total_of, row_entries, statement_entries, entries}
use Rattle.decision.specs.Decision.{Found, nothing, found, value_at, part_of, is_none, same_effect}
use Rattle.candidates.specs.Entries.{Place, in_action, in_resource, in_row}
use Rattle.rooms.specs.Rooms.{Slot, slots_at, row_slots, statement_slots, slots, hits, row_hits, statement_hits}
use Rattle.rooms.specs.Rooms.{none, statement_charges}
use Rattle.rooms.specs.Listing.{statement_found, denying}

-- ---- how many

pub slots_many : (a : Effect) (p : Place) (xs : List Value) → length (slots_at a p xs) ≡ length xs
slots_many a p xs = length-map xs (λ x. record { effect = a; place = p; entry = x })

pub row_slots_many : (a : Effect) (xs : List Row) → length (row_slots a xs) ≡ row_entries xs
unfolding row_slots total_of
row_slots_many a [] = refl
row_slots_many a (x ∷ xs) =
    let here : List Slot = slots_at a (in_row x.operator) x.entries in
    omega (
      arith,
      length-append here (row_slots a xs),
      slots_many a (in_row x.operator) x.entries,
      row_slots_many a xs,
    )

-- as many as the entries of the statement, and of the policy
pub statement_slots_many : (s : Statement) → length (statement_slots s) ≡ statement_entries s
unfolding statement_slots statement_entries
statement_slots_many s =
    let xs : List Slot = slots_at s.effect in_action (map text s.actions) in
    let ys : List Slot = slots_at s.effect in_resource (map text s.resources) in
    omega (
      arith,
      length-append xs (ys ++ row_slots s.effect s.rows),
      length-append ys (row_slots s.effect s.rows),
      slots_many s.effect in_action (map text s.actions),
      length-map s.actions text,
      slots_many s.effect in_resource (map text s.resources),
      length-map s.resources text,
      row_slots_many s.effect s.rows,
    )

pub policy_slots_many : (p : Policy) → length (slots p) ≡ entries p
unfolding slots total_of
policy_slots_many [] = refl
policy_slots_many (s ∷ p) =
    omega (arith, length-append (statement_slots s) (slots p), statement_slots_many s, policy_slots_many p)

-- ---- nothing is charged

none_append : (ss ts : List Slot) → none (ss ++ ts) ≡ none ss ++ none ts
none_append [] ts = refl
none_append (s ∷ ss) ts = ap (λ (l : List Found). nothing ∷ l) (none_append ss ts)

no_hits : (a : Effect) (p : Place) (xs : List Value) → hits p nothing xs ≡ none (slots_at a p xs)
no_hits a p [] = refl
no_hits a p (x ∷ xs) = ap (λ (l : List Found). nothing ∷ l) (no_hits a p xs)

no_row_hits : (a : Effect) (xs : List Row) → row_hits xs [] ≡ none (row_slots a xs)
unfolding row_hits row_slots value_at
no_row_hits a [] = refl
no_row_hits a (x ∷ xs) =
    let p : Place = in_row x.operator in
    ap (λ (l : List Found). l ++ row_hits xs []) (no_hits a p x.entries)
    ∙ ap (λ (l : List Found). none (slots_at a p x.entries) ++ l) (no_row_hits a xs)
    ∙ sym (none_append (slots_at a p x.entries) (row_slots a xs))

-- asked for nothing
pub found_nothing : (s : Statement) → statement_found s nothing nothing [] ≡ none (statement_slots s)
unfolding statement_found statement_slots
found_nothing s =
    let a : Effect = s.effect in
    let xs : List Slot = slots_at a in_action (map text s.actions) in
    let ys : List Slot = slots_at a in_resource (map text s.resources) in
    let zs : List Slot = row_slots a s.rows in
    ap (λ (l : List Found). l ++ (hits in_resource nothing (map text s.resources) ++ row_hits s.rows []))
    (no_hits a in_action (map text s.actions))
    ∙ ap (λ (l : List Found). none xs ++ (l ++ row_hits s.rows [])) (no_hits a in_resource (map text s.resources))
    ∙ ap (λ (l : List Found). none xs ++ (none ys ++ l)) (no_row_hits a s.rows)
    ∙ ap (λ (l : List Found). none xs ++ l) (sym (none_append ys zs)) ∙ sym (none_append xs (ys ++ zs))

-- ---- what a request charges

module _ (s : Statement) (q : Request) where
  abbrev hits_if : Bool → List Found
  hits_if b = pick b (statement_hits s q) (none (statement_slots s))

module _ (s : Statement) (q : Request) {holds : Bool} where
  pub hits_not : holds ≡ false → statement_found s nothing nothing [] ≡ hits_if s q holds
  hits_not e = found_nothing s ∙ sym (ap (hits_if s q) e)

  pub hits_all : holds ≡ true
      → statement_found s (found (text q.action)) (found (text q.resource)) q.context ≡ hits_if s q holds
  unfolding statement_hits statement_found
  hits_all e = sym (ap (hits_if s q) e)

  -- a statement that denies is not listed
  pub charges_are : holds ≡ is_none (part_of s q) → denying s holds ≡ false → hits_if s q holds ≡ statement_charges s q
  unfolding statement_charges
  charges_are e d =
      ap (hits_if s q) (by s.effect holds d)
      ∙ ap (λ (b : Bool). hits_if s q (both (same_effect s.effect Allow) b)) e
    where
      by : (a : Effect) (b : Bool) → both b (same_effect Deny a) ≡ false → b ≡ both (same_effect a Allow) b
      by Allow b d = refl
      by Deny true d = absurd (true≢false d)
      by Deny false d = refl

-- ---- whether a statement denies

pub denies_not : (s : Statement) {holds : Bool} → holds ≡ false → false ≡ denying s holds
denies_not s e = sym (ap (denying s) e)

pub denies_by : (s : Statement) {holds : Bool} {k : ℕ} → holds ≡ true → k ≡ effect_number s.effect
    → not (eqb k 1) ≡ denying s holds
denies_by s {holds} {k} e f = ap (λ (n : ℕ). not (eqb n 1)) f ∙ by s.effect ∙ sym (ap (denying s) e)
  where
    by : (a : Effect) → not (eqb (effect_number a) 1) ≡ both true (same_effect Deny a)
    by Allow = refl
    by Deny = refl

-- ---- statement by statement

pub none_more : (s : Statement) (p : Policy) → none (slots (s ∷ p)) ≡ none (statement_slots s) ++ none (slots p)
unfolding slots
none_more s p = none_append (statement_slots s) (slots p)
