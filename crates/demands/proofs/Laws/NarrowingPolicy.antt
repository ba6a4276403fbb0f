-- Whatever a refined policy allows, the policy that it was made of allows.
use mathlib.Core.Path.{◌≡◌, refl, sym, ap, ◌∙◌}
use mathlib.Core.Bool.{Bool, true, false}
use mathlib.Core.List.{List, [], ◌∷◌, ◌++◌, map, append_assoc}
use Prim.Native.Nat.{ℕ, ◌+◌, ◌*◌}
use native.Mathlib.Omega.{arith}
use lib.ListN.{length, take, drop}
use lib.Seq.{drop-drop}
use Rattle.chars.specs.Base.{pick}
use Rattle.syntax.specs.Policy.{Effect, Allow, Deny, Value, text, Row, Statement, Policy, Context, Request}
use Rattle.syntax.specs.Forms.{both, either}
use Rattle.held.specs.Held.{any_of}
use Rattle.parts.proofs.Laws.Slots.{both_true}
use Rattle.decision.specs.Matching.{matches}
use Rattle.decision.specs.Decision.{typed, meets, Found, nothing, found, value_at, same_effect}
use Rattle.candidates.specs.Entries.{Place, in_action, in_resource, in_row, kind_of}
use Rattle.candidates.specs.Rows.{row_numbers, is_row}
use Rattle.rooms.specs.Rooms.{Slot, slots_at, row_slots, statement_slots, slots, row_fits, fits}
use Rattle.refined.specs.Finishing.{kept, behind, kept_texts, kept_rows, is_whole, kept_statement, left_by}
use Rattle.refined.specs.Finishing.{refined_policy}
use Rattle.demands.specs.Narrowing.{Narrows}
use Rattle.demands.proofs.Laws.Narrowing.{either_right, either_to, both_to, list_fits, kept_narrows}
use Rattle.demands.proofs.Laws.Narrowing.{texts_narrow}
use Rattle.demands.proofs.Laws.Deciding.{held_by, all_held, matched, some, not, allowed_is}

-- ---- rows

pub fits_list : (p : Place) (xs : List Value) (ss : List Slot) (ns : List ℕ) → fits (slots_at Allow p xs ++ ss) ns ≡ true
    → (list_fits p xs ns ≡ true) × (fits ss (behind xs ns) ≡ true)
unfolding fits list_fits
fits_list p [] ss ns e = (refl, e)
fits_list p (x ∷ xs) ss ns e =
    let t = both_true (is_row (kind_of p x) (take row_numbers ns)) (fits (slots_at Allow p xs ++ ss) (drop row_numbers ns)) e in
    let r = fits_list p xs ss (drop row_numbers ns) t.1 in
    let n : row_numbers + row_numbers * length xs ≡ row_numbers * length (x ∷ xs) = omega arith in (
      ap (λ (b : Bool). both b (list_fits p xs (drop row_numbers ns))) t.0 ∙ r.0,
      ap (fits ss) (sym (drop-drop (row_numbers * length xs) row_numbers ns ∙ ap (λ (k : ℕ). drop k ns) n)) ∙ r.1,
    )

held_narrows : (r : Row) (f : Found) (ns : List ℕ) → list_fits (in_row r.operator) r.entries ns ≡ true
    → held_by (record { operator = r.operator; key = r.key; entries = kept r.entries ns }) f ≡ true
    → held_by r f ≡ true
held_narrows r nothing ns f e = e
held_narrows r (found v) ns f e =
    both_to (typed r.operator v) (any_of (λ x. meets r.operator x v) (kept r.entries ns))
    (typed r.operator v) (any_of (λ x. meets r.operator x v) r.entries) (λ t. t)
    (kept_narrows (in_row r.operator) v r.entries ns f) e

rows_narrow : (rs : List Row) (cs : List Context) (ss : List Slot) (ns : List ℕ)
    → fits (row_slots Allow rs ++ ss) ns ≡ true → all_held (kept_rows rs ns) cs ≡ true → all_held rs cs ≡ true
unfolding row_slots kept_rows all_held
rows_narrow [] cs ss ns f e = refl
rows_narrow (r ∷ rs) cs ss ns f e =
    let g = fits_list (in_row r.operator) r.entries (row_slots Allow rs ++ ss) ns
    (sym (ap (λ (l : List Slot). fits l ns) (append_assoc (slots_at Allow (in_row r.operator) r.entries)
    (row_slots Allow rs) ss)) ∙ f) in
    both_to (held_by (record { operator = r.operator; key = r.key; entries = kept r.entries ns })
    (value_at r.key cs)) (all_held (kept_rows rs (behind r.entries ns)) cs)
    (held_by r (value_at r.key cs)) (all_held rs cs) (held_narrows r (value_at r.key cs) ns g.0)
    (rows_narrow rs cs ss (behind r.entries ns) g.1) e

-- ---- statements

abbrev pub allow_slots : Statement → List Slot
allow_slots s =
    slots_at Allow in_action (map text s.actions)
    ++ (slots_at Allow in_resource (map text s.resources) ++ row_slots Allow s.rows)

-- the rows behind a list of texts
pub behind_texts : (xs : List (List ℕ)) (ns : List ℕ) → behind (map text xs) ns ≡ behind xs ns
behind_texts xs ns = ap (λ (k : ℕ). drop (row_numbers * k) ns) (many xs)
  where
    many : (zs : List (List ℕ)) → length (map text zs) ≡ length zs
    many [] = refl
    many (z ∷ zs) = omega (arith, many zs)

statement_narrows : (s : Statement) (q : Request) (ss : List Slot) (ns : List ℕ) → fits (allow_slots s ++ ss) ns ≡ true
    → matched (kept_statement s ns) q ≡ true → matched s q ≡ true
unfolding matched kept_statement
statement_narrows s q ss ns f e =
    let a = slots_at Allow in_action (map text s.actions) in
    let b = slots_at Allow in_resource (map text s.resources) in
    let c = row_slots Allow s.rows in
    let f1 = sym (ap (λ (l : List Slot). fits l ns) (append_assoc a (b ++ c) ss)) ∙ f in
    let g = fits_list in_action (map text s.actions) ((b ++ c) ++ ss) ns f1 in
    let ns1 = behind s.actions ns in
    let f2 : fits (b ++ (c ++ ss)) ns1 ≡ true
    = sym (ap (λ (l : List Slot). fits l ns1) (append_assoc b c ss))
    ∙ ap (fits ((b ++ c) ++ ss)) (sym (behind_texts s.actions ns)) ∙ g.1 in
    let h = fits_list in_resource (map text s.resources) (c ++ ss) ns1 f2 in
    let ns2 = behind s.resources ns1 in
    let f3 : fits (c ++ ss) ns2 ≡ true = ap (fits (c ++ ss)) (sym (behind_texts s.resources ns1)) ∙ h.1 in
    both_to (any_of (λ x. matches x q.action) (kept_texts s.actions ns))
    (both (any_of (λ x. matches x q.resource) (kept_texts s.resources ns1))
    (all_held (kept_rows s.rows ns2) q.context))
    (any_of (λ x. matches x q.action) s.actions)
    (both (any_of (λ x. matches x q.resource) s.resources) (all_held s.rows q.context))
    (texts_narrow in_action (λ ys. refl) (λ ys t. refl) q.action s.actions ns g.0)
    (both_to (any_of (λ x. matches x q.resource) (kept_texts s.resources ns1))
    (all_held (kept_rows s.rows ns2) q.context)
    (any_of (λ x. matches x q.resource) s.resources) (all_held s.rows q.context)
    (texts_narrow in_resource (λ ys. refl) (λ ys t. refl) q.resource s.resources ns1 h.0)
    (rows_narrow s.rows q.context ss ns2 f3)) e

-- ---- the policy

pub skip : (ts ss : List Slot) (ns : List ℕ) → fits (ts ++ ss) ns ≡ true → fits ss (drop (row_numbers * length ts) ns) ≡ true
unfolding fits
skip [] ss ns e = e
skip (t ∷ ts) ss ns e =
    let r = skip ts ss (drop row_numbers ns) (both_true (row_fits t (take row_numbers ns)) (fits (ts ++ ss)
    (drop row_numbers ns)) e).1 in
    let n : row_numbers + row_numbers * length ts ≡ row_numbers * length (t ∷ ts) = omega arith in
    ap (fits ss) (sym (drop-drop (row_numbers * length ts) row_numbers ns ∙ ap (λ (k : ℕ). drop k ns) n)) ∙ r

pub slots_allow : (s : Statement) → s.effect ≡ Allow → statement_slots s ≡ allow_slots s
unfolding statement_slots
slots_allow s e =
    ap (λ (a : Effect). slots_at a in_action (map text s.actions)
    ++ (slots_at a in_resource (map text s.resources) ++ row_slots a s.rows)) e

pub effect_kept : (s : Statement) (ns : List ℕ) → (kept_statement s ns).effect ≡ s.effect
unfolding kept_statement
effect_kept s ns = refl

-- an Allow statement is no Deny, whatever else it is
some_deny : (s : Statement) (p : Policy) (q : Request) → s.effect ≡ Allow → some Deny (s ∷ p) q ≡ some Deny p q
unfolding some
some_deny s p q e = ap (λ (a : Effect). either (both (same_effect Deny a) (matched s q)) (some Deny p q)) e

left_deny : (s : Statement) (ns : List ℕ) (rest : Policy) (q : Request)
    → some Deny (left_by s ns rest) q ≡ some Deny (s ∷ rest) q
left_deny s ns rest q = by s.effect refl
  where
    by : (e : Effect) → s.effect ≡ e → some Deny (left_by s ns rest) q ≡ some Deny (s ∷ rest) q
    by Deny e =
        ap (λ (a : Effect). some Deny (pick (same_effect a Allow) (pick (is_whole (kept_statement s ns))
        (kept_statement s ns ∷ rest) rest) (s ∷ rest)) q) e
    by Allow e =
        ap (λ (a : Effect). some Deny (pick (same_effect a Allow) (pick (is_whole (kept_statement s ns))
        (kept_statement s ns ∷ rest) rest) (s ∷ rest)) q) e
        ∙ whether (is_whole (kept_statement s ns)) ∙ sym (some_deny s rest q e)
      where
        whether : (b : Bool) → some Deny (pick b (kept_statement s ns ∷ rest) rest) q ≡ some Deny rest q
        whether true = some_deny (kept_statement s ns) rest q (effect_kept s ns ∙ e)
        whether false = refl

pub deny_same : (p : Policy) (ns : List ℕ) (q : Request) → some Deny (refined_policy p ns) q ≡ some Deny p q
unfolding refined_policy some
deny_same [] ns q = refl
deny_same (s ∷ p) ns q =
    left_deny s ns (refined_policy p (behind (statement_slots s) ns)) q
    ∙ ap (either (both (same_effect Deny s.effect) (matched s q))) (deny_same p (behind (statement_slots s) ns) q)

-- ---- Allow statements

module _ (s : Statement) (p rest : Policy) (q : Request) (ss : List Slot) (ns : List ℕ)
    (fit : fits (statement_slots s ++ ss) ns ≡ true) (later : some Allow rest q ≡ true → some Allow p q ≡ true) where
  abbrev here : Bool
  here = both (same_effect Allow s.effect) (matched s q)

  kept_here : s.effect ≡ Allow → both (same_effect Allow (kept_statement s ns).effect) (matched (kept_statement s ns) q) ≡ true
      → here ≡ true
  kept_here e =
      both_to (same_effect Allow (kept_statement s ns).effect) (matched (kept_statement s ns) q)
      (same_effect Allow s.effect) (matched s q) (λ t. ap (same_effect Allow) e)
      (statement_narrows s q ss ns (sym (ap (λ (l : List Slot). fits (l ++ ss) ns) (slots_allow s e)) ∙ fit))

  left_allow : some Allow (left_by s ns rest) q ≡ true → some Allow (s ∷ p) q ≡ true
  unfolding some
  left_allow = by s.effect refl
    where
      whether : s.effect ≡ Allow → (b : Bool) → some Allow (pick b (kept_statement s ns ∷ rest) rest) q ≡ true
          → either here (some Allow p q) ≡ true
      whether e true h =
          either_to (both (same_effect Allow (kept_statement s ns).effect) (matched (kept_statement s ns) q))
          (some Allow rest q) here (some Allow p q) (kept_here e) later h
      whether e false h = either_right here (later h)

      by : (e : Effect) → s.effect ≡ e → some Allow (left_by s ns rest) q ≡ true → either here (some Allow p q) ≡ true
      by Allow e h =
          whether e (is_whole (kept_statement s ns))
          (sym (ap (λ (a : Effect). some Allow (pick (same_effect a Allow) (pick (is_whole (kept_statement s ns))
          (kept_statement s ns ∷ rest) rest) (s ∷ rest)) q) e) ∙ h)
      by Deny e h =
          either_to here (some Allow rest q) here (some Allow p q) (λ t. t) later
          (sym (ap (λ (a : Effect). some Allow (pick (same_effect a Allow) (pick (is_whole (kept_statement s ns))
          (kept_statement s ns ∷ rest) rest) (s ∷ rest)) q) e) ∙ h)

allow_narrows : (p : Policy) (ns : List ℕ) (q : Request) → fits (slots p) ns ≡ true
    → some Allow (refined_policy p ns) q ≡ true → some Allow p q ≡ true
unfolding refined_policy slots
allow_narrows [] ns q f e = e
allow_narrows (s ∷ p) ns q f e =
    left_allow s p (refined_policy p (behind (statement_slots s) ns)) q (slots p) ns f
    (allow_narrows p (behind (statement_slots s) ns) q (skip (statement_slots s) (slots p) ns f)) e

-- ---- demand 3: no request that the original does not

pub narrows : Narrows
narrows p room f q e =
    let t = both_true (not (some Deny (refined_policy p room) q)) (some Allow (refined_policy p room) q)
    (sym (allowed_is (refined_policy p room) q) ∙ e) in
    allowed_is p q
    ∙ ap (λ (b : Bool). both (not b) (some Allow p q)) (sym (deny_same p room q))
    ∙ ap (λ (b : Bool). both b (some Allow p q)) t.0 ∙ allow_narrows p room q f t.1
