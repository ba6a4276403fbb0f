-- Places and wildcards as the code has them, and what it tests of a candidate's characters.
--   place_is p            the place that p names
--   form_of p cs          the form of the list p, where characters stand for themselves;  star_of p   a final star there
--   wild_of ys            no wildcard; one, a final *, by its place; or others
--   Starts q a before after   after begins with q and then a, and has the length of before
use Rattle.std.specs.Prelude.{◌≡◌, Bool, true, List, [], ◌∷◌, ◌++◌, ℕ, suc, ◌-◌, eqb, length, take}
use Rattle.chars.specs.Base.{pick}
use Rattle.syntax.specs.Policy.{star}
use Rattle.syntax.specs.Forms.{both, is_action, is_resource}
use Rattle.parts.specs.Spoken.{operator_is}
use Rattle.candidates.specs.Entries.{Place, in_action, in_resource, in_row, wildcards, last_of}
use Rattle.candidates.specs.declared.kinds.Wild.{Wild}
use Rattle.candidates.specs.declared.kinds.Wild.TheVariants as W
use Rattle.candidates.specs.declared.places.Place.TheVariants as P
use Rattle.candidates.specs.declared.places.Place as code

abbrev pub place_is : code.Place → Place
place_is P.Action = in_action
place_is P.Resource = in_resource
place_is (P.Row o) = in_row (operator_is o)

abbrev pub form_of : Place → List ℕ → Bool
form_of in_action cs = is_action cs
form_of in_resource ys = is_resource ys
form_of (in_row o) ys = true

abbrev pub star_of : Place → ℕ
star_of in_action = 42
star_of in_resource = star
star_of (in_row o) = star

unfoldable pub wild_of : List ℕ → Wild
wild_of ys =
    pick (eqb (wildcards ys) 0) W.Without
    (pick (both (eqb (wildcards ys) 1) (eqb (last_of ys) star)) (W.FinalStar (length ys - 1)) W.Others)

pub record Starts (q : List ℕ) (a : ℕ) (before after : List ℕ) : Type 0 where
  pub size : length after ≡ length before
  pub is : take (suc (length q)) after ≡ q ++ (a ∷ [])
