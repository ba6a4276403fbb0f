-- Whether a statement is left, and as what: every list of an Allow has an entry, and a Deny is whole.
use mathlib.Core.Path.{◌≡◌, refl, sym, ap, ◌∙◌}
use mathlib.Core.Bool.{Bool, true, false}
use mathlib.Core.List.{List, [], ◌∷◌, map}
use Prim.Native.Nat.{ℕ, ◌+◌}
use native.Mathlib.Omega.{arith}
use lib.ListN.{length}
use Rattle.chars.specs.Base.{pick}
use Rattle.syntax.specs.Forms.{both, either}
use Rattle.syntax.specs.Policy.{Effect, Allow, Deny, Value, Statement}
use Rattle.held.specs.Held.{effect_number, any_of, held_statement}
use Rattle.held.specs.Lying.{Lies}
use Rattle.held.specs.declared.runs.Seen.{Seen}
use Rattle.parts.proofs.Laws.Holding.{never}
use Rattle.held.proofs.Laws.RunsStatement.{ListPassed}
use Rattle.held.proofs.Laws.Parts.{BehindLabel}
use Rattle.decision.specs.Decision.{same_effect}
use Rattle.refined.specs.Finishing.{kept, behind, text_of, kept_texts, has_some, is_whole, kept_statement, left_by}
use Rattle.refined.specs.Finishing.{has_allow}
use Rattle.refined.specs.Keeping.{from, left, is_left}
use Rattle.refined.proofs.Laws.KeepingStatements.{action_values, resource_values, actions_behind, resources_behind}
use Rattle.refined.proofs.Laws.KeepingStatements.{actions_many, resources_many}
use Rattle.refined.proofs.Laws.KeepingTests.{rows_test}

-- ---- whether every list has an entry

some_texts : (zs : List Value) → has_some (map text_of zs) ≡ has_some zs
some_texts [] = refl
some_texts (z ∷ zs) = refl

-- what a test of n rows told
abbrev pub SomeTold : List ℕ → ℕ → Bool → Type 0
SomeTold ns n t = (xs : List Value) → n ≡ length xs → t ≡ has_some (kept xs ns)

module _ (x : Statement) (ns : List ℕ) where
  abbrev rest_rows : List ℕ
  rest_rows = behind x.resources (behind x.actions ns)

  abbrev rest : Bool
  rest = both (has_some (kept_texts x.resources (behind x.actions ns))) (rows_test x.rows rest_rows)

module _ {run : List ℕ} (ns : List ℕ) {p a : ℕ} (x : Statement) (l : Lies run p (held_statement x))
    (far : BehindLabel run p a) {b : Seen} (at_b : ListPassed run a b) {t : Bool} (f : SomeTold ns b.entries t) where
  whole_is : both t (rest x ns) ≡ is_whole (kept_statement x ns)
  unfolding kept_statement
  whole_is =
      ap (λ (u : Bool). both u (rest x ns))
      (f (action_values x) (actions_many x l far at_b) ∙ sym (some_texts (kept (action_values x) ns)))

  pub whole_first : t ≡ false → false ≡ is_whole (kept_statement x ns)
  whole_first e = ap (λ (u : Bool). both u (rest x ns)) (sym e) ∙ whole_is

module _ {run : List ℕ} (room : List ℕ) {p a : ℕ} (s : ℕ) (x : Statement) (l : Lies run p (held_statement x))
    (far : BehindLabel run p a) {b : Seen} (at_b : ListPassed run a b) {t : Bool}
    (f : SomeTold (from room s) b.entries t) (e : t ≡ true) {c : Seen} (at_c : ListPassed run b.past c) {u : Bool}
    (g : SomeTold (from room (s + b.entries)) c.entries u) where
  abbrev ns : List ℕ
  ns = from room s

  abbrev rows_of : Bool
  rows_of = rows_test x.rows (rest_rows x ns)

  whole_on : both u rows_of ≡ is_whole (kept_statement x ns)
  whole_on =
      ap (λ (v : Bool). both v rows_of)
      (g (resource_values x) (resources_many x l far at_b at_c)
      ∙ ap (λ (ms : List ℕ). has_some (kept (resource_values x) ms))
      (sym (actions_behind room s x (actions_many x l far at_b) (resources_many x l far at_b at_c)))
      ∙ sym (some_texts (kept (resource_values x) (behind x.actions ns))))
      ∙ ap (λ (v : Bool). both v (rest x ns)) (sym e) ∙ whole_is ns x l far at_b f

  pub whole_second : u ≡ false → false ≡ is_whole (kept_statement x ns)
  whole_second h = ap (λ (v : Bool). both v rows_of) (sym h) ∙ whole_on

  pub whole_third :
      u ≡ true → {v : Bool} → v ≡ rows_test x.rows (from room (s + b.entries + c.entries))
      → v ≡ is_whole (kept_statement x ns)
  whole_third h k =
      k ∙ ap (rows_test x.rows)
      (sym (resources_behind room s x (actions_many x l far at_b) (resources_many x l far at_b at_c)))
      ∙ ap (λ (v : Bool). both v rows_of) (sym h) ∙ whole_on

-- ---- by the effect

module _ (x : Statement) {k : ℕ} (e : k ≡ effect_number x.effect) where
  pub is_allow : k ≡ 1 → x.effect ≡ Allow
  is_allow f = by x.effect (sym e ∙ f)
    where
      by : (z : Effect) → effect_number z ≡ 1 → z ≡ Allow
      by Allow g = refl
      by Deny g = absurd (omega (arith, g))

  same_allow : k ≡ 1 → same_effect x.effect Allow ≡ true
  same_allow f = ap (λ (z : Effect). same_effect z Allow) (is_allow f)

  same_deny : (k ≡ 1 → ⊥) → same_effect x.effect Allow ≡ false
  same_deny f = by x.effect (λ g. f (e ∙ g))
    where
      by : (z : Effect) → (effect_number z ≡ 1 → ⊥) → same_effect z Allow ≡ false
      by Allow g = absurd (g refl)
      by Deny g = refl

  module _ (ns : List ℕ) where
    abbrev remains : Bool
    remains = is_whole (kept_statement x ns)

    pub left_deny : (k ≡ 1 → ⊥) → left x ns ≡ x
    left_deny f = ap (λ (b : Bool). pick b (kept_statement x ns) x) (same_deny f)

    pub left_allow : k ≡ 1 → left x ns ≡ kept_statement x ns
    left_allow f = ap (λ (b : Bool). pick b (kept_statement x ns) x) (same_allow f)

    pub is_left_deny : (k ≡ 1 → ⊥) → true ≡ is_left x ns
    is_left_deny f = sym (ap (λ (b : Bool). pick b remains true) (same_deny f))

    pub is_left_allow : k ≡ 1 → remains ≡ is_left x ns
    is_left_allow f = sym (ap (λ (b : Bool). pick b remains true) (same_allow f))

    pub allowed_deny : (k ≡ 1 → ⊥) → false ≡ has_allow (left_by x ns [])
    unfolding any_of
    allowed_deny f =
        sym (ap (λ (b : Bool). has_allow (pick b (pick remains (kept_statement x ns ∷ []) []) (x ∷ []))) (same_deny f)
        ∙ ap (λ (b : Bool). either b false) (same_deny f))

    pub allowed_allow : k ≡ 1 → remains ≡ has_allow (left_by x ns [])
    unfolding any_of kept_statement
    allowed_allow f =
        sym (ap (λ (b : Bool). has_allow (pick b (pick remains (kept_statement x ns ∷ []) []) (x ∷ []))) (same_allow f)
        ∙ by remains)
      where
        by : (b : Bool) → has_allow (pick b (kept_statement x ns ∷ []) []) ≡ b
        by true = ap (λ (c : Bool). either c false) (same_allow f)
        by false = refl

-- ---- one statement or none

module _ (x : Statement) (ns : List ℕ) where
  pub left_none : {b : Bool} → b ≡ is_left x ns → b ≡ false → left_by x ns [] ≡ []
  left_none e f = by (same_effect x.effect Allow) (is_whole (kept_statement x ns)) (sym e ∙ f)
    where
      by : (a w : Bool) → pick a w true ≡ false → pick a (pick w (kept_statement x ns ∷ []) []) (x ∷ []) ≡ []
      by true true g = never (sym g)
      by true false g = refl
      by false w g = never (sym g)

  pub left_one : {b : Bool} → b ≡ is_left x ns → b ≡ true → left_by x ns [] ≡ left x ns ∷ []
  left_one e f = by (same_effect x.effect Allow) (is_whole (kept_statement x ns)) (sym e ∙ f)
    where
      by : (a w : Bool) → pick a w true ≡ true
          → pick a (pick w (kept_statement x ns ∷ []) []) (x ∷ []) ≡ pick a (kept_statement x ns) x ∷ []
      by true true g = refl
      by true false g = never g
      by false w g = refl
