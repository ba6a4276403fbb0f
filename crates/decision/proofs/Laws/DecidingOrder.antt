-- The order of the decision: statement by statement up to the first Deny that matches, with the first Allow in mind.
use mathlib.Core.Path.{◌≡◌, refl, sym, ap, ◌∙◌}
use mathlib.Core.Bool.{Bool, true, false, true≢false}
use mathlib.Core.List.{List, [], ◌∷◌}
use Prim.Native.Nat.{ℕ, zero, suc, ◌+◌, ◌<◌}
use native.Mathlib.Numerals.{add-one}
use native.Mathlib.Omega.{arith}
use Rattle.chars.specs.Base.{pick}
use Rattle.syntax.specs.Policy.{Effect, Allow, Deny, Statement, Policy, Request}
use Rattle.held.specs.Held.{effect_number, any_of}
use Rattle.decision.specs.Matching.{matches}
use Rattle.decision.proofs.Laws.DecidingStatement.{part_is}
use Rattle.decision.specs.Decision.{Part, none, action, resource, row, part_of, is_none, same_effect, first_of}
use Rattle.decision.specs.Decision.{by_deny}
use Rattle.decision.specs.Decision.{decide}
use Rattle.decision.specs.Deciding.{told_part, part_behind, or_else}
use Rattle.decision.specs.declared.deciding.Failing.{Failing}
use Rattle.std.proofs.Common.{Option, Some, None, is_some, not}
use Rattle.std.specs.Option.{option_or}
use Rattle.decision.specs.declared.deciding.Decision.{Decision}
use Rattle.decision.specs.declared.deciding.Decision.TheVariants.{Denied, Allowed, Implicit}

-- ---- whether a statement matches

some_none : (x : Part) → not (is_some (told_part x)) ≡ is_none x
some_none none = refl
some_none action = refl
some_none resource = refl
some_none (row k w) = refl

module _ (x : Part) {o : Option Failing} {b : Bool} (e : o ≡ told_part x) (s : b ≡ is_some o) where
  pub not_none : b ≡ true → is_none x ≡ false
  not_none h = sym (some_none x) ∙ ap (λ u. not (is_some u)) (sym e) ∙ ap not (sym s ∙ h)

  pub is_none_told : b ≡ false → is_none x ≡ true
  is_none_told h = sym (some_none x) ∙ ap (λ u. not (is_some u)) (sym e) ∙ ap not (sym s ∙ h)

pub none_told :
    (x : Part) {o : Option Failing} {b : Bool} → o ≡ told_part x → is_some o ≡ not b → b ≡ is_none x
none_told x {b = b} e s = opposite b (sym s ∙ ap is_some e) ∙ some_none x
  where
    opposite : (c : Bool) {d : Bool} → not c ≡ d → c ≡ not d
    opposite true h = ap not h
    opposite false h = ap not h

-- a text's comparison is that of the texts that lie there
pub compared : (x y : List ℕ) {a b : List ℕ} {r : Bool} → a ≡ x → b ≡ y → r ≡ matches a b → r ≡ matches x y
compared x y {b = b} e f h = h ∙ ap (λ u. matches u b) e ∙ ap (matches x) f

module _ (x : Statement) (q : Request) where
  abbrev action_matches : Bool
  action_matches = any_of (λ e. matches e q.action) x.actions

  pub unmatched : action_matches ≡ false → is_none (part_of x q) ≡ false
  unmatched e = ap is_none (part_is x q ∙ ap (λ (b : Bool). pick b (part_behind x q) action) e)

  pub matched : action_matches ≡ true → is_none (part_of x q) ≡ is_none (part_behind x q)
  matched e = ap is_none (part_is x q ∙ ap (λ (b : Bool). pick b (part_behind x q) action) e)

-- ---- effects

pub is_deny : (e : Effect) {k : ℕ} → k ≡ effect_number e → k ≡ 2 → e ≡ Deny
is_deny Allow f h = absurd (omega arith)
is_deny Deny f h = refl

pub is_allow : (e : Effect) {k : ℕ} → k ≡ effect_number e → (k ≡ 2 → ⊥) → e ≡ Allow
is_allow Allow f h = refl
is_allow Deny f h = absurd (h f)

-- ---- numbers of statements

pub or_zero : (a : ℕ) → or_else a 0 ≡ a
or_zero zero = refl
or_zero (suc a) = refl

or_some : (a b c : ℕ) → or_else (or_else a (suc b)) c ≡ or_else a (suc b)
or_some zero b c = refl
or_some (suc a) b c = refl

pub or_first : (a b : ℕ) → a ≡ 0 → b ≡ or_else a b
or_first zero b h = refl
or_first (suc a) b h = absurd (omega arith)

pub or_kept : (a b : ℕ) → (a ≡ 0 → ⊥) → a ≡ or_else a b
or_kept zero b h = absurd (h refl)
or_kept (suc a) b h = refl

-- ---- the statement that is kept, by its number; 0 where none is

abbrev pub number : Option ℕ → ℕ
number None = 0
number (Some k) = k

abbrev pub Kept : Option ℕ → Type 0
Kept a = (k : ℕ) → a ≡ Some k → 0 < k

pub kept_none : (a : Option ℕ) → Kept a → Kept (option_or a None)
kept_none None h = h
kept_none (Some j) h = h

pub kept_or : (a : Option ℕ) (i : ℕ) → Kept a → Kept (option_or a (Some (i + 1)))
kept_or None i h k e = let z : k ≡ i + 1 = cc in omega arith
kept_or (Some j) i h k e = h k e

number_or : (a : Option ℕ) (i : ℕ) → Kept a → number (option_or a (Some (i + 1))) ≡ or_else (number a) (i + 1)
number_or None i h = refl
number_or (Some zero) i h = absurd (omega (arith, h 0 refl))
number_or (Some (suc j)) i h = refl

or_none : (a : Option ℕ) → number (option_or a None) ≡ or_else (number a) 0
or_none None = refl
or_none (Some zero) = refl
or_none (Some (suc j)) = refl

pub kept_is : (a : Option ℕ) {b o : Option ℕ} → b ≡ option_or a o → o ≡ None → number b ≡ or_else (number a) 0
kept_is a e f = ap number (e ∙ ap (option_or a) f) ∙ or_none a

pub kept_some :
    (a : Option ℕ) (i : ℕ) → Kept a → {b o : Option ℕ} → b ≡ option_or a o → o ≡ Some (i + 1)
    → number b ≡ or_else (number a) (i + 1)
kept_some a i h e f = ap number (e ∙ ap (option_or a) f) ∙ number_or a i h

pub none_some : {k : ℕ} → None ≡ Some k → ⊥
none_some e = true≢false (sym (ap is_some e))

pub some_same : {j k : ℕ} → Some j ≡ Some k → j ≡ k
some_same e = ap number e

-- ---- the decision by statements still to come, the first of them being the k-th; a is the first Allow that matched

unfoldable pub told : ℕ → ℕ → Request → Policy → Decision
told a k q p = by_deny (first_of Deny p q k) (or_else a (first_of Allow p q k))

pub told_all : (p : Policy) (q : Request) → told 0 1 q p ≡ decide p q
unfolding told decide
told_all p q = refl

module _ (k : ℕ) (s : Statement) (p : Policy) (q : Request) where
  first_on : (e : Effect) → is_none (part_of s q) ≡ false → first_of e (s ∷ p) q k ≡ first_of e p q (suc k)
  unfolding first_of
  first_on e h =
      ap (λ (b : Bool). pick (same_effect e s.effect) (pick b k (first_of e p q (suc k))) (first_of e p q (suc k))) h
      ∙ same_pick (same_effect e s.effect) (first_of e p q (suc k))
    where
      same_pick : (b : Bool) (n : ℕ) → pick b n n ≡ n
      same_pick true n = refl
      same_pick false n = refl

  first_other : (e : Effect) → same_effect e s.effect ≡ false → first_of e (s ∷ p) q k ≡ first_of e p q (suc k)
  unfolding first_of
  first_other e h =
      ap (λ (b : Bool). pick b (pick (is_none (part_of s q)) k (first_of e p q (suc k))) (first_of e p q (suc k))) h

  first_here : (e : Effect) → same_effect e s.effect ≡ true → is_none (part_of s q) ≡ true → first_of e (s ∷ p) q k ≡ k
  unfolding first_of
  first_here e h g =
      ap (λ (b : Bool). pick b (pick (is_none (part_of s q)) k (first_of e p q (suc k))) (first_of e p q (suc k))) h
      ∙ ap (λ (b : Bool). pick b k (first_of e p q (suc k))) g

module _ (a i : ℕ) (s : Statement) (p : Policy) (q : Request) where
  -- the statement after it
  one_more : suc (i + 1) ≡ i + 1 + 1
  one_more = sym (add-one (i + 1))

  pub told_passed :
      {b c : ℕ} → b ≡ or_else a c → c ≡ 0 → is_none (part_of s q) ≡ false
      → told a (i + 1) q (s ∷ p) ≡ told b (i + 1 + 1) q p
  unfolding told
  told_passed {b} {c} f z h =
      let kept : b ≡ a = f ∙ ap (or_else a) z ∙ or_zero a in
      ap (λ (n : ℕ). by_deny n (or_else a (first_of Allow (s ∷ p) q (i + 1)))) (first_on (i + 1) s p q Deny h)
      ∙ ap (λ (n : ℕ). by_deny (first_of Deny p q (suc (i + 1))) (or_else a n)) (first_on (i + 1) s p q Allow h)
      ∙ ap (λ (n : ℕ). by_deny (first_of Deny p q n) (or_else a (first_of Allow p q n))) one_more
      ∙ ap (λ (n : ℕ). by_deny (first_of Deny p q (i + 1 + 1)) (or_else n (first_of Allow p q (i + 1 + 1)))) (sym kept)

  pub told_allowed :
      {b c : ℕ} → b ≡ or_else a c → c ≡ i + 1 → is_none (part_of s q) ≡ true → s.effect ≡ Allow
      → told a (i + 1) q (s ∷ p) ≡ told b (i + 1 + 1) q p
  unfolding told
  told_allowed {b} {c} f z h e =
      let first : b ≡ or_else a (suc i) = f ∙ ap (or_else a) (z ∙ add-one i) in
      let later = first_of Allow p q (i + 1 + 1) in
      ap (λ (n : ℕ). by_deny n (or_else a (first_of Allow (s ∷ p) q (i + 1))))
      (first_other (i + 1) s p q Deny (ap (same_effect Deny) e))
      ∙ ap (λ (n : ℕ). by_deny (first_of Deny p q (suc (i + 1))) (or_else a n))
      (first_here (i + 1) s p q Allow (ap (same_effect Allow) e) h ∙ add-one i)
      ∙ ap (λ (n : ℕ). by_deny (first_of Deny p q n) (or_else a (suc i))) one_more
      ∙ ap (by_deny (first_of Deny p q (i + 1 + 1))) (sym (or_some a i later))
      ∙ ap (λ (n : ℕ). by_deny (first_of Deny p q (i + 1 + 1)) (or_else n later)) (sym first)

  pub told_denied : is_none (part_of s q) ≡ true → s.effect ≡ Deny → Denied (i + 1) ≡ told a (i + 1) q (s ∷ p)
  unfolding told
  told_denied h e =
      ap Denied (add-one i)
      ∙ ap (λ (n : ℕ). by_deny n (or_else a (first_of Allow (s ∷ p) q (i + 1))))
      (sym (first_here (i + 1) s p q Deny (ap (same_effect Deny) e) h ∙ add-one i))

-- none is left
module _ (k : ℕ) (q : Request) where
  pub left_allowed : (a : ℕ) → (a ≡ 0 → ⊥) → Allowed a ≡ told a k q []
  unfolding told first_of
  left_allowed zero h = absurd (h refl)
  left_allowed (suc a) h = refl

  pub left_implicit : (a : ℕ) → a ≡ 0 → Implicit ≡ told a k q []
  unfolding told first_of
  left_implicit zero h = refl
  left_implicit (suc a) h = absurd (omega arith)

-- of the one that is kept
module _ (k : ℕ) (q : Request) {a : Option ℕ} where
  pub left_some : {n : ℕ} → a ≡ Some n → Kept a → Allowed n ≡ told (number a) k q []
  left_some {n} e h =
      let z : n ≡ number a = sym (ap number e) in
      left_allowed k q n (λ y. absurd (omega (arith, h n e, y))) ∙ ap (λ (i : ℕ). told i k q []) z

  pub left_none : a ≡ None → Implicit ≡ told (number a) k q []
  left_none e = left_implicit k q (number a) (ap number e)
