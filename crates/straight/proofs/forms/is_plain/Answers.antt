-- Every character is plain.
use mathlib.Core.Path.{◌≡◌, refl, ap, ◌∙◌}
use mathlib.Core.Bool.{Bool, true, false}
use mathlib.Core.List.{List, [], ◌∷◌}
use Prim.Native.Nat.{ℕ}
use Rattle.std.proofs.Common.{◌&&◌}
use Rattle.std.specs.List.{list_all}
use Rattle.std.proofs.Common.{rules}
use Rattle.std.proofs.lemmas.Iterator.{YieldsList-from_slice}
use Rattle.std.proofs.lemmas.Iterator.Search.{all_from_yields_List}
use Rattle.syntax.specs.Forms.{both, all}
use Rattle.syntax.specs.RecordLayout.{is_plain}
use Rattle.straight.proofs.forms.is_plain.Goals as goal

both_and : (t u : Bool) → (t && u) ≡ both t u
both_and true u = refl
both_and false u = refl

all_is : (f : ℕ → Bool) (cs : List ℕ) → list_all f cs ≡ all f cs
unfolding all
all_is f [] = refl
all_is f (c ∷ cs) = both_and (f c) (list_all f cs) ∙ ap (both (f c)) (all_is f cs)

pub returns : goal.returns
returns c =
    all_from_yields_List is_plain _ _ _ c.all.ensures.ran (YieldsList-from_slice c.args.cs.now cc)
    (λ x b q k. search rules)
    ∙ all_is is_plain c.args.cs.now
