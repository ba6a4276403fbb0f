-- The decision as tests: some Allow statement matches and no Deny does; a statement matches if all its parts do.
use mathlib.Core.Path.{◌≡◌, refl, ap, ◌∙◌}
use mathlib.Core.Bool.{Bool, true, false}
use mathlib.Core.List.{List, [], ◌∷◌}
use Prim.Native.Nat.{ℕ, zero, suc}
use Rattle.chars.specs.Base.{pick}
use Rattle.syntax.specs.Policy.{Effect, Allow, Deny, Row, Statement, Policy, Context, Request}
use Rattle.syntax.specs.Forms.{both, either}
use Rattle.held.specs.Held.{any_of}
use Rattle.decision.specs.Matching.{matches}
use Rattle.decision.specs.Decision.{typed, meets, Found, nothing, found, value_at, Result, holds, fails, result_with}
use Rattle.decision.specs.Decision.{other_type, no_entry, action, resource}
use Rattle.decision.specs.Decision.{row_result, Part, behind_row, rows_from, part_of, is_none, same_effect, first_of}
use Rattle.decision.specs.Decision.{by_deny, decide}
use Rattle.demands.specs.Narrowing.{is_allowed}

-- ---- rows

abbrev pub held_by : Row → Found → Bool
held_by r nothing = false
held_by r (found v) = both (typed r.operator v) (any_of (λ x. meets r.operator x v) r.entries)

unfoldable pub all_held : List Row → List Context → Bool
all_held [] cs = true
all_held (r ∷ rs) cs = both (held_by r (value_at r.key cs)) (all_held rs cs)

abbrev is_held : Result → Bool
is_held holds = true
is_held (fails w) = false

result_held : (r : Row) (f : Found) → is_held (result_with r f) ≡ held_by r f
result_held r nothing = refl
result_held r (found v) = by (typed r.operator v) (any_of (λ x. meets r.operator x v) r.entries)
  where
    by : (a b : Bool) → is_held (pick a (pick b holds (fails no_entry)) (fails other_type)) ≡ both a b
    by true true = refl
    by true false = refl
    by false b = refl

behind_held : (k : ℕ) (x : Result) (rest : Part) → is_none (behind_row k x rest) ≡ both (is_held x) (is_none rest)
behind_held k holds rest = refl
behind_held k (fails w) rest = refl

rows_held : (k : ℕ) (rs : List Row) (cs : List Context) → is_none (rows_from k rs cs) ≡ all_held rs cs
unfolding rows_from row_result all_held
rows_held k [] cs = refl
rows_held k (r ∷ rs) cs =
    behind_held k (row_result r cs) (rows_from (suc k) rs cs)
    ∙ ap (λ (b : Bool). both b (is_none (rows_from (suc k) rs cs))) (result_held r (value_at r.key cs))
    ∙ ap (both (held_by r (value_at r.key cs))) (rows_held (suc k) rs cs)

-- ---- statements

unfoldable pub matched : Statement → Request → Bool
matched s q =
    both (any_of (λ e. matches e q.action) s.actions)
    (both (any_of (λ e. matches e q.resource) s.resources) (all_held s.rows q.context))

pub part_matched : (s : Statement) (q : Request) → is_none (part_of s q) ≡ matched s q
unfolding part_of matched
part_matched s q =
    by (any_of (λ e. matches e q.action) s.actions) (any_of (λ e. matches e q.resource) s.resources)
  where
    by : (a b : Bool) → is_none (pick a (pick b (rows_from 1 s.rows q.context) resource) action)
        ≡ both a (both b (all_held s.rows q.context))
    by true true = rows_held 1 s.rows q.context
    by true false = refl
    by false b = refl

-- ---- the policy

-- a statement of that effect matches
unfoldable pub some : Effect → Policy → Request → Bool
some e [] q = false
some e (s ∷ p) q = either (both (same_effect e s.effect) (matched s q)) (some e p q)

abbrev is_some : ℕ → Bool
is_some zero = false
is_some (suc k) = true

first_some : (e : Effect) (p : Policy) (q : Request) (k : ℕ) → is_some (first_of e p q (suc k)) ≡ some e p q
unfolding first_of some
first_some e [] q k = refl
first_some e (s ∷ p) q k =
    ap (λ (b : Bool). is_some (pick (same_effect e s.effect) (pick b (suc k) (first_of e p q (suc (suc k))))
    (first_of e p q (suc (suc k))))) (part_matched s q)
    ∙ picked (same_effect e s.effect) (matched s q) k (first_of e p q (suc (suc k)))
    ∙ ap (either (both (same_effect e s.effect) (matched s q))) (first_some e p q (suc k))
  where
    picked : (a b : Bool) (j n : ℕ) → is_some (pick a (pick b (suc j) n) n) ≡ either (both a b) (is_some n)
    picked true true j n = refl
    picked true false j n = refl
    picked false b j n = refl

abbrev pub not : Bool → Bool
not true = false
not false = true

by_tests_lem : (a b : ℕ) → is_allowed (by_deny a b) ≡ both (not (is_some a)) (is_some b)
by_tests_lem zero zero = refl
by_tests_lem zero (suc b) = refl
by_tests_lem (suc a) b = refl

pub allowed_is : (p : Policy) (q : Request) → is_allowed (decide p q) ≡ both (not (some Deny p q)) (some Allow p q)
unfolding decide
allowed_is p q =
    by_tests_lem (first_of Deny p q 1) (first_of Allow p q 1)
    ∙ ap (λ (b : Bool). both (not b) (is_some (first_of Allow p q 1))) (first_some Deny p q 0)
    ∙ ap (both (not (some Deny p q))) (first_some Allow p q 0)
