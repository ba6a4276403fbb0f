-- The context entry that has a key.
use mathlib.Core.Path.{◌≡◌, refl, sym, ap, ◌∙◌, subst}
use mathlib.Core.Bool.{Bool, true, false}
use mathlib.Core.List.{List, [], ◌∷◌}
use Prim.Native.Nat.{ℕ, ◌<◌}
use Rattle.std.proofs.Common.{Some, None}
use Rattle.chars.specs.Base.{pick}
use Rattle.syntax.specs.Forms.{same_key}
use Rattle.syntax.specs.Policy.{Context}
use Rattle.held.specs.Held.{held_context}
use Rattle.held.specs.Lying.{Lies}
use Rattle.decision.specs.Decision.{Found, found, value_at}
use Rattle.decision.specs.Deciding.{Finds}

module _ (k : List ℕ) (x : Context) (xs : List Context) where
  value_here : same_key k x.key ≡ true → value_at k (x ∷ xs) ≡ found x.value
  unfolding value_at
  value_here e = ap (λ (t : Bool). pick t (found x.value) (value_at k xs)) e

  pub value_on : same_key k x.key ≡ false → value_at k (x ∷ xs) ≡ value_at k xs
  unfolding value_at
  value_on e = ap (λ (t : Bool). pick t (found x.value) (value_at k xs)) e

  pub finds_here :
      {run : List ℕ} {p : ℕ} {f : Found} → same_key k x.key ≡ true → Lies run p (held_context x) → 0 < p
      → value_at k (x ∷ xs) ≡ f → Finds run (Some p) f
  finds_here {run} {p} e l s t =
      subst (Finds run (Some p)) (sym (value_here e) ∙ t) (p, refl, record { context = x; is = refl; lies = l; some = s })

pub finds_none : (run : List ℕ) {f : Found} (k : List ℕ) → value_at k [] ≡ f → Finds run None f
unfolding value_at
finds_none run k e = subst (Finds run None) e refl
