-- The repository's words for what the library's chains find.
use mathlib.Core.Path.{◌≡◌, refl, ap, ◌∙◌}
use mathlib.Core.Bool.{Bool, true, false, ◌&&◌}
use mathlib.Core.List.{List, [], ◌∷◌}
use Prim.Native.Nat.{ℕ}
use lib.Dec.{eqb}
use Rattle.std.specs.Cmp.Lexicographic.{pointwise}
use Rattle.std.specs.List.{list_all}
use Rattle.syntax.specs.Forms.{both, same, all}

pub both_and : (a b : Bool) → (a && b) ≡ both a b
both_and true b = refl
both_and false b = refl

pub all_by : (f : ℕ → Bool) (xs : List ℕ) → list_all f xs ≡ all f xs
unfolding all
all_by f [] = refl
all_by f (x ∷ xs) = ap (λ b. f x && b) (all_by f xs) ∙ both_and (f x) (all f xs)

pub same_by : (xs ys : List ℕ) → pointwise eqb xs ys ≡ same xs ys
unfolding same
same_by [] [] = refl
same_by [] (y ∷ ys) = refl
same_by (x ∷ xs) [] = refl
same_by (x ∷ xs) (y ∷ ys) = ap (λ b. eqb x y && b) (same_by xs ys) ∙ both_and (eqb x y) (same xs ys)

pub refused : {b t : Bool} → b ≡ false → false ≡ t → b ≡ t
refused e f = e ∙ f

pub true_not : true ≡ false → ⊥
true_not e = cc
