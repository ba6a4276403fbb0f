-- The first part of a statement that does not hold.
use mathlib.Core.Path.{◌≡◌, refl, sym, ap, ◌∙◌}
use mathlib.Core.Bool.{Bool, true, false}
use Rattle.chars.specs.Base.{pick}
use mathlib.Core.List.{List, [], ◌∷◌, map}
use Prim.Native.Nat.{ℕ}
use Rattle.syntax.specs.Forms.{either}
use Rattle.syntax.specs.Policy.{Statement, Request, Operator, StringLike, Value, text}
use Rattle.held.specs.Held.{held_text, held_value, held_list, operator_number}
use Rattle.held.specs.Lying.{Lies}
use Rattle.held.specs.Places.{Operating}
use Rattle.held.proofs.Laws.Parts.{texts_values}
use Rattle.decision.specs.Matching.{matches}
use Rattle.held.specs.Held.{any_of}
use Rattle.decision.specs.Decision.{meets, Part, action, resource, rows_from, part_of}
use Rattle.decision.specs.Deciding.{part_behind, told_part}
use Rattle.decision.specs.declared.deciding.Failing.TheVariants as F
use Rattle.std.proofs.Common.{Some}

module _ (x : Statement) (q : Request) where
  abbrev action_matches : Bool
  action_matches = any_of (λ e. matches e q.action) x.actions

  abbrev resource_matches : Bool
  resource_matches = any_of (λ e. matches e q.resource) x.resources

  abbrev rows_part : Part
  rows_part = rows_from 1 x.rows q.context

  pub behind_resource : resource_matches ≡ false → Some F.Resource ≡ told_part (part_behind x q)
  unfolding part_behind
  behind_resource e = sym (ap (λ (b : Bool). told_part (pick b rows_part resource)) e)

  pub behind_rows : resource_matches ≡ true → told_part rows_part ≡ told_part (part_behind x q)
  unfolding part_behind
  behind_rows e = sym (ap (λ (b : Bool). told_part (pick b rows_part resource)) e)

  pub part_is : part_of x q ≡ pick action_matches (part_behind x q) action
  unfolding part_of part_behind
  part_is = refl

  pub part_action : action_matches ≡ false → Some F.Action ≡ told_part (part_of x q)
  part_action e = ap told_part (sym (part_is ∙ ap (λ (b : Bool). pick b (part_behind x q) action) e))

  pub part_behind_lem : action_matches ≡ true → told_part (part_behind x q) ≡ told_part (part_of x q)
  part_behind_lem e = ap told_part (sym (part_is ∙ ap (λ (b : Bool). pick b (part_behind x q) action) e))

-- ---- a list of texts is one of values, compared as StringLike does

pub like_operating : Operating 2
like_operating = record { operator = StringLike; is = refl }

like_any : (xs : List (List ℕ)) (y : List ℕ)
    → any_of (λ x. meets StringLike x (text y)) (map text xs) ≡ any_of (λ x. matches x y) xs
unfolding any_of
like_any [] y = refl
like_any (x ∷ xs) y = ap (either (matches x y)) (like_any xs y)

pub like_some :
    {run at : List ℕ} {p t : ℕ} {b : Bool} (xs : List (List ℕ)) (y : List ℕ)
    → ((o : Operator) (vs : List Value) (v : Value) → 2 ≡ operator_number o → Lies run p (held_list held_value vs)
    → Lies at t (held_value v) → b ≡ any_of (λ x. meets o x v) vs)
    → Lies run p (held_list held_text xs) → Lies at t (held_text y) → b ≡ any_of (λ x. matches x y) xs
like_some xs y f l m = f StringLike (map text xs) (text y) refl (texts_values xs l) m ∙ like_any xs y
