-- A comparison with a kind, as the test of that kind; what it tells of whatever value stands there.
use mathlib.Core.Path.{◌≡◌, refl, sym, ap, ◌∙◌}
use mathlib.Core.Bool.{Bool, true, false, not}
use mathlib.Core.List.{List}
use Prim.Native.Nat.{ℕ}
use denote.Enum.Bare.{sameb}
use Rattle.text.specs.Json.{Json}
use Rattle.text.specs.Contents.{kind_of, Stands}
use Rattle.text.specs.contracts.walk.Kind.{the_type}
use Rattle.text.specs.declared.walk.Kind.{Kind}
use Rattle.text.specs.declared.walk.Kind.TheVariants as K
use Rattle.parts.specs.Holding.{is_text, is_number, is_list, is_object}

text_same : (k : Kind) → sameb the_type k K.Text ≡ is_text k
text_same K.Null = refl
text_same K.True = refl
text_same K.False = refl
text_same K.Number = refl
text_same K.Text = refl
text_same K.List = refl
text_same K.Object = refl

number_same : (k : Kind) → sameb the_type k K.Number ≡ is_number k
number_same K.Null = refl
number_same K.True = refl
number_same K.False = refl
number_same K.Number = refl
number_same K.Text = refl
number_same K.List = refl
number_same K.Object = refl

list_same : (k : Kind) → sameb the_type k K.List ≡ is_list k
list_same K.Null = refl
list_same K.True = refl
list_same K.False = refl
list_same K.Number = refl
list_same K.Text = refl
list_same K.List = refl
list_same K.Object = refl

object_same : (k : Kind) → sameb the_type k K.Object ≡ is_object k
object_same K.Null = refl
object_same K.True = refl
object_same K.False = refl
object_same K.Number = refl
object_same K.Text = refl
object_same K.List = refl
object_same K.Object = refl

told : (f : Kind → Bool) {s : List ℕ} {v : ℕ} {k : Kind} {b : Bool}
    → ((t : Json) (e : ℕ) → Stands s t v e → k ≡ kind_of t) → f k ≡ b
    → (t : Json) (e : ℕ) → Stands s t v e → f (kind_of t) ≡ b
told f g h t e p = ap f (sym (g t e p)) ∙ h

not_not : (a b c : Bool) → b ≡ not a → b ≡ c → a ≡ not c
not_not true b c h i = ap not (sym h ∙ i)
not_not false b c h i = ap not (sym h ∙ i)

module _ {s : List ℕ} {v : ℕ} {k : Kind} {b c : Bool}
    (kind : (t : Json) (e : ℕ) → Stands s t v e → k ≡ kind_of t) where
  pub number_told : b ≡ sameb the_type k K.Number → b ≡ c
      → (t : Json) (e : ℕ) → Stands s t v e → is_number (kind_of t) ≡ c
  number_told h i = told is_number kind (sym (number_same k) ∙ sym h ∙ i)

  pub text_told : b ≡ not (sameb the_type k K.Text) → b ≡ c
      → (t : Json) (e : ℕ) → Stands s t v e → is_text (kind_of t) ≡ not c
  text_told h i = told is_text kind (sym (text_same k) ∙ not_not (sameb the_type k K.Text) b c h i)

  pub list_told : b ≡ not (sameb the_type k K.List) → b ≡ c
      → (t : Json) (e : ℕ) → Stands s t v e → is_list (kind_of t) ≡ not c
  list_told h i = told is_list kind (sym (list_same k) ∙ not_not (sameb the_type k K.List) b c h i)

  pub object_told : b ≡ not (sameb the_type k K.Object) → b ≡ c
      → (t : Json) (e : ℕ) → Stands s t v e → is_object (kind_of t) ≡ not c
  object_told h i = told is_object kind (sym (object_same k) ∙ not_not (sameb the_type k K.Object) b c h i)
