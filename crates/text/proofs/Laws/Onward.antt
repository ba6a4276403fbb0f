-- What is owed behind inner values is judged one after the other.
use mathlib.Core.Path.{◌≡◌, subst}
use mathlib.Core.List.{List, [], ◌∷◌}
use Prim.Native.Nat.{ℕ, ◌<◌}
use native.Mathlib.Omega.{arith}
use Rattle.text.specs.Machine.{ws, value, next, inner}
use Rattle.text.specs.Reading.{Leads, Done, Followed, Follows}
use Rattle.std.specs.Prelude.{Ok}
use Rattle.text.specs.declared.scan.Shape.{Shape}
use Rattle.text.specs.declared.scan.Next.{Next}
use Rattle.text.specs.declared.scan.Next.TheVariants.{Inner as Another, Closed}
use Rattle.text.proofs.Laws.Reading.{seq, frame}

module _ {s : List ℕ} {sh : Shape} {n a i : ℕ} (w : Leads s (ws ∷ next sh n ∷ []) a (ws ∷ next sh n ∷ []) i) where
  module _ {q : Next} (f : Follows s sh i (Ok q)) where
    told : (r : Next) → q ≡ r → Followed s sh i (Ok r) n
    told r e = subst (λ (x : Next). Followed s sh i (Ok x) n) e (f.at_any n)

    pub rest_closed : {e : ℕ} → q ≡ Closed e → Done s (ws ∷ next sh n ∷ []) a e
    rest_closed z = seq w (told (Closed _) z)

    module _ {j : ℕ} (z : q ≡ Another j) where
      pub rest_inner : Leads s (ws ∷ next sh n ∷ []) a (inner sh n) j
      rest_inner = seq w (told (Another j) z).leads

      module _ {m : ℕ} (d : Done s (value n ∷ []) j m) where
        pub rest_more : Leads s (ws ∷ next sh n ∷ []) a (ws ∷ next sh n ∷ []) m
        rest_more = seq rest_inner (frame (ws ∷ next sh n ∷ []) d)

        pub rest_less : i < m
        rest_less = omega (arith, (told (Another j) z).later, d.low)
