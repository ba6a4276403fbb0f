-- The refined policy: its statements put one behind the other, and whether an Allow is among them.
use mathlib.Core.Path.{◌≡◌, refl, sym, ap, ◌∙◌, subst}
use mathlib.Core.Bool.{Bool, true, false}
use mathlib.Core.List.{List, [], ◌∷◌, ◌++◌}
use Prim.Native.Nat.{ℕ, ◌+◌, ◌*◌, ◌≤◌, ◌<◌}
use native.Mathlib.Omega.{arith}
use lib.ListN.{length, get_or, drop, length-append}
use Rattle.chars.specs.Base.{pick}
use Rattle.syntax.specs.Forms.{either}
use Rattle.syntax.specs.Limits.{run_numbers}
use Rattle.syntax.specs.Policy.{Effect, Allow, Statement, Policy}
use Rattle.held.specs.Held.{held_statement, held, any_of, statement_entries}
use Rattle.held.specs.Lying.{Lies}
use Rattle.held.proofs.Laws.Runs.{lies_next, lies_short, list_long}
use Rattle.parts.proofs.Laws.Holding.{never}
use Rattle.decision.specs.Decision.{same_effect}
use Rattle.writing.specs.Bytes.{statement_bytes}
use Rattle.writing.proofs.Laws.Telling.{Telling, Tellings, Piece, list_told}
use Rattle.writing.proofs.Laws.Lying.{policy_lies}
use Rattle.candidates.specs.Rows.{row_numbers}
use Rattle.refined.specs.Finishing.{behind, is_whole, kept_statement, left_by, refined_policy, has_allow}
use Rattle.rooms.specs.Rooms.{statement_slots}
use Rattle.refined.specs.Keeping.{from, WritRows, WritPolicy, an_allow, a_deny, Reaches, statement_values}
use Rattle.refined.specs.Keeping.{policy_values, KeptPolicy}
use Rattle.writing.specs.declared.sink.Sink.{Sink}
use Rattle.refined.proofs.Laws.KeepingLists.{from_on, Turn, turn, told, reached_piece}
use Rattle.refined.proofs.Laws.KeepingTests.{Lookings, list_looked, looking_many}
use Rattle.refined.proofs.Laws.KeepingStatements.{statement_many, statement_slots_lem}

-- ---- the rows of its statements

pub policy_count :
    (x : Statement) (xs : Policy) {m : ℕ} → m ≡ statement_entries x
    → length (policy_values (x ∷ xs)) ≡ m + length (policy_values xs)
unfolding policy_values
policy_count x xs e = omega (arith, length-append (statement_values x) (policy_values xs), statement_many x, e)

module _ (room : List ℕ) (s : ℕ) (x : Statement) {m : ℕ} (e : m ≡ statement_entries x) where
  values_behind : drop (row_numbers * length (statement_values x)) (from room s) ≡ from room (s + m)
  values_behind =
      from_on room s (length (statement_values x)) ∙ ap (λ (z : ℕ). from room (s + z)) (statement_many x ∙ sym e)

  refined_first :
      (xs : Policy)
      → refined_policy (x ∷ xs) (from room s) ≡ left_by x (from room s) (refined_policy xs (from room (s + m)))
  unfolding refined_policy
  refined_first xs =
      ap (λ (k : ℕ). left_by x (from room s) (refined_policy xs (drop (row_numbers * k) (from room s))))
      (statement_slots_lem x)
      ∙ ap (λ (l : List ℕ). left_by x (from room s) (refined_policy xs l)) values_behind

left_apart : (x : Statement) (ns : List ℕ) (zs : Policy) → left_by x ns zs ≡ left_by x ns [] ++ zs
left_apart x ns zs = by (same_effect x.effect Allow) (is_whole (kept_statement x ns))
  where
    by : (a w : Bool)
        → pick a (pick w (kept_statement x ns ∷ zs) zs) (x ∷ zs)
        ≡ pick a (pick w (kept_statement x ns ∷ []) []) (x ∷ []) ++ zs
    by true true = refl
    by true false = refl
    by false w = refl

left_few : (x : Statement) (ns : List ℕ) → length (left_by x ns []) ≤ 1
left_few x ns = by (same_effect x.effect Allow) (is_whole (kept_statement x ns))
  where
    by : (a w : Bool) → length (pick a (pick w (kept_statement x ns ∷ []) []) (x ∷ [])) ≤ 1
    by true true = omega arith
    by true false = omega arith
    by false w = omega arith

-- ---- an Allow among them

abbrev pub allow_test : Policy → List ℕ → Bool
allow_test xs ns = has_allow (refined_policy xs ns)

allow_apart : (ys zs : Policy) → has_allow (ys ++ zs) ≡ either (has_allow ys) (has_allow zs)
unfolding any_of
allow_apart [] zs = refl
allow_apart (y ∷ ys) zs = by (same_effect y.effect Allow) (allow_apart ys zs)
  where
    by : (t : Bool) → has_allow (ys ++ zs) ≡ either (has_allow ys) (has_allow zs)
        → either t (has_allow (ys ++ zs)) ≡ either (either t (has_allow ys)) (has_allow zs)
    by true e = refl
    by false e = e

pub allow_here :
    (ns : List ℕ) (x : Statement) (xs : Policy) {b : Bool} → b ≡ has_allow (left_by x ns []) → b ≡ true
    → allow_test (x ∷ xs) ns ≡ true
unfolding refined_policy
allow_here ns x xs e f =
    let zs = refined_policy xs (behind (statement_slots x) ns) in
    ap has_allow (left_apart x ns zs) ∙ allow_apart (left_by x ns []) zs
    ∙ ap (λ (t : Bool). either t (has_allow zs)) (sym e ∙ f)

pub allow_on :
    (room : List ℕ) (s : ℕ) (x : Statement) (xs : Policy) {b : Bool} {m : ℕ} → m ≡ statement_entries x
    → b ≡ has_allow (left_by x (from room s) []) → b ≡ false
    → allow_test (x ∷ xs) (from room s) ≡ allow_test xs (from room (s + m))
allow_on room s x xs {m = m} g e f =
    let zs = refined_policy xs (from room (s + m)) in
    ap has_allow (refined_first room s x g xs ∙ left_apart x (from room s) zs)
    ∙ allow_apart (left_by x (from room s) []) zs ∙ ap (λ (t : Bool). either t (has_allow zs)) (sym e ∙ f)

-- ---- its statements put one behind the other

abbrev pub left_from : List ℕ → ℕ → Policy → Policy
left_from room j xs = refined_policy xs (from room j)

abbrev pub tell_left : List ℕ → ℕ × ℕ → Policy → List ℕ
tell_left room = told statement_bytes (left_from room)

-- k others stand before those still to come, and row s is the first one's
pub record PolicyReady (room : List ℕ) (s : ℕ × ℕ) (xs : Policy) : Type 0 where
  pub enough : row_numbers * (s.1 + length (policy_values xs)) ≤ length room
  pub writ : WritPolicy xs (from room s.1)
  pub few : s.0 + length xs ≤ run_numbers

statement_some : (x : Statement) → 1 ≤ length (held_statement x)
unfolding held_statement
statement_some x = omega arith

pub policy_few : {run : List ℕ} (p : Policy) → Lies run 0 (held p) → length p ≤ run_numbers
policy_few p l =
    omega (arith, list_long held_statement statement_some p, lies_short (lies_next (policy_lies p l)))

pub ready_start :
    {run room : List ℕ} (p : Policy) → Lies run 0 (held p) → row_numbers * length (policy_values p) ≤ length room
    → WritPolicy p room → PolicyReady room (0, 0) p
ready_start p l h w = record { enough = omega (arith, h); writ = w; few = omega (arith, policy_few p l) }

module _ {t : ℕ × ℕ → Policy → List ℕ} {run room : List ℕ} {u₀ u : Sink} {i p k s : ℕ} (y : KeptPolicy run room)
    (w : Tellings held_statement t (PolicyReady room) (0, 0) run 1 u₀ (get_or run 0 0) i p (k, s) u) where
  pub policy_told :
      Telling held_statement t (PolicyReady room) run (t (0, 0) y.policy) u₀ (get_or run 0 0) i p (k, s) u
  policy_told =
      list_told y.policy (policy_lies y.policy y.lies)
      (ready_start y.policy y.lies y.enough y.writ) w

  pub policy_turn : i < get_or run 0 0 → Turn held_statement (PolicyReady room (k, s)) run p
  policy_turn h = turn policy_told h

-- how many rows there are is counted on the way, for whichever policy lies there
abbrev pub Counts : (run room : List ℕ) (n i p s : ℕ) → Type 0
Counts run room n i p s = Lookings held_statement policy_values (λ xs ns. true) run room 1 0 n i p s

pub counted_ready :
    {run room : List ℕ} {i p s : ℕ} → KeptPolicy run room → Counts run room (get_or run 0 0) i p s → get_or run 0 0 ≤ i
    → (q : Policy) → Lies run 0 (held q) → WritPolicy q room → PolicyReady room (0, 0) q
counted_ready y w h q l v =
    let all = looking_many (list_looked y.policy (policy_lies y.policy y.lies) w) h in
    let these = looking_many (list_looked q (policy_lies q l) w) h in
    ready_start q l (omega (arith, y.enough, all, these)) v

writ_allow : {x : Statement} {xs : Policy} {ns : List ℕ} → WritPolicy (x ∷ xs) ns → x.effect ≡ Allow
    → WritRows (statement_values x) ns
writ_allow (an_allow e w rest) f = w
writ_allow (a_deny e rest) f = never (ap (λ (z : Effect). same_effect z Allow) (sym e ∙ f))

writ_rest : {x : Statement} {xs : Policy} {ns : List ℕ} → WritPolicy (x ∷ xs) ns
    → WritPolicy xs (drop (row_numbers * length (statement_values x)) ns)
writ_rest (an_allow e w rest) = rest
writ_rest (a_deny e rest) = rest

module _ {room : List ℕ} {k s : ℕ} {x : Statement} {xs : Policy} (v : PolicyReady room (k, s) (x ∷ xs)) where
  pub left_enough : row_numbers * (s + length (statement_values x)) ≤ length room
  left_enough = omega (arith, v.enough, policy_count x xs refl, statement_many x)

  pub left_writ : x.effect ≡ Allow → WritRows (statement_values x) (from room s)
  left_writ = writ_allow v.writ

  pub left_behind : k < run_numbers
  left_behind = omega (arith, v.few)

  module _ {m : ℕ} (e : m ≡ statement_entries x) where
    pub left_far : row_numbers * (s + m) ≤ length room
    left_far = omega (arith, left_enough, statement_many x, e)

    left_next : (j : ℕ) → j ≡ k + length (left_by x (from room s) []) → PolicyReady room (j, s + m) xs
    left_next j f =
        record {
          enough = omega (arith, v.enough, policy_count x xs e);
          writ = subst (WritPolicy xs) (values_behind room s x e) (writ_rest v.writ);
          few = omega (arith, v.few, f, left_few x (from room s));
        }

    pub left_piece :
        {run total : List ℕ} {u₀ u t : Sink} {n i p q r : ℕ}
        (w : Telling held_statement (tell_left room) (PolicyReady room) run total u₀ n i p (k, s) u)
        → q ≡ p + length (held_statement x) → Reaches statement_bytes (left_by x (from room s) []) k r u t
        → Piece w x xs q (r, s + m) t
    left_piece {r = r} w far y =
        reached_piece statement_bytes (left_from room) (PolicyReady room) w x xs far y
        (refined_first room s x e xs ∙ left_apart x (from room s) (left_from room (s + m) xs))
        (left_next r y.count)
