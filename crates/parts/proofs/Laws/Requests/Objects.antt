-- Values that are objects, as the test of their kind tells them.
use mathlib.Core.Path.{◌≡◌, refl, subst}
use mathlib.Core.Bool.{true, false}
use mathlib.Core.List.{List}
use Prim.Native.Nat.{ℕ}
use Rattle.text.specs.Json.{Json, null, bool, number, string, list, object, Members}
use Rattle.text.specs.Contents.{kind_of, Stands}
use Rattle.parts.specs.Holding.{is_object}
use Rattle.parts.proofs.Laws.Holding.{never}

pub record AnObject (t : Json) : Type 0 where
  pub members : Members
  pub is : t ≡ object members

pub is_object_lem : (t : Json) → is_object (kind_of t) ≡ true → AnObject t
is_object_lem null e = never e
is_object_lem (bool true) e = never e
is_object_lem (bool false) e = never e
is_object_lem (number w) e = never e
is_object_lem (string w) e = never e
is_object_lem (list ts) e = never e
is_object_lem (object ms) e = record { members = ms; is = refl }

pub object_stands : {s : List ℕ} {v e : ℕ} {t : Json} → Stands s t v e → (a : AnObject t)
    → Stands s (object a.members) v e
object_stands {s} {v} {e} p a = subst (λ (u : Json). Stands s u v e) a.is p
