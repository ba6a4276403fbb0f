-- Entries of every kind as values: texts and numbers are held alike.
use mathlib.Core.Path.{◌≡◌, sym, ap}
use mathlib.Core.Bool.{true, false}
use mathlib.Core.List.{List}
use Prim.Native.Nat.{ℕ}
use Rattle.text.specs.Json.{Json}
use Rattle.syntax.specs.Policy.{text}
use Rattle.syntax.specs.Policy as P
use Rattle.syntax.specs.Forms.{Reading, symbols_of}
use Rattle.syntax.specs.Members.{then, characters_of}
use Rattle.syntax.specs.PolicyLayout.{as_text, as_number, action_of, resource_of, number_of_json, value_of}
use Rattle.held.specs.Held.{held_text, held_number, held_value}
use Rattle.parts.specs.Spoken.{operator_is}
use Rattle.parts.specs.Holding.{HoldsTo, entry_of}
use Rattle.parts.specs.declared.holding.Ended.{Ended}
use Rattle.std.specs.Prelude.{Option, Some, None}
use Rattle.parts.specs.declared.words.Operator.{Operator}
use Rattle.parts.specs.declared.words.Operator.TheVariants as O
use Rattle.parts.specs.declared.entries.Entry.{Entry}
use Rattle.parts.specs.declared.entries.Entry.TheVariants as E

-- ---- held as a value

pub ends_text : (run run' : List ℕ) (at e : ℕ) (x : Reading (List ℕ)) (r : Option Ended)
    → HoldsTo held_text run run' at x e r → HoldsTo held_value run run' at (as_text x) e r
ends_text run run' at e x (Some r) h =
    (record { thing = text h.0.thing; said = ap as_text h.0.said; extends = h.0.extends }, h.1)
ends_text run run' at e x None h = record { size = h.size; said = ap as_text h.said }

pub ends_number : (run run' : List ℕ) (at e : ℕ) (x : Reading ℕ) (r : Option Ended)
    → HoldsTo held_number run run' at x e r → HoldsTo held_value run run' at (as_number x) e r
ends_number run run' at e x (Some r) h =
    (record { thing = P.number h.0.thing; said = ap as_number h.0.said; extends = h.0.extends }, h.1)
ends_number run run' at e x None h = record { size = h.size; said = ap as_number h.said }

-- ---- by the operator

module _ (t : Json) {o : Operator} where
  pub equals_is : o ≡ O.StringEquals → as_text (then (characters_of t) (symbols_of false)) ≡ entry_of (E.Value o) t
  unfolding value_of
  equals_is e = sym (ap (λ (i : Operator). value_of (operator_is i) t) e)

  pub like_is : o ≡ O.StringLike → as_text (then (characters_of t) (symbols_of true)) ≡ entry_of (E.Value o) t
  unfolding value_of
  like_is e = sym (ap (λ (i : Operator). value_of (operator_is i) t) e)

  pub bound_is : o ≡ O.NumericLessThanEquals → as_number (number_of_json t) ≡ entry_of (E.Value o) t
  unfolding value_of
  bound_is e = sym (ap (λ (i : Operator). value_of (operator_is i) t) e)

-- ---- by the list

module _ (t : Json) {k : Entry} where
  pub action_is : k ≡ E.Action → as_text (action_of t) ≡ entry_of k t
  action_is e = sym (ap (λ (i : Entry). entry_of i t) e)

  pub resource_is : k ≡ E.Resource → as_text (resource_of t) ≡ entry_of k t
  resource_is e = sym (ap (λ (i : Entry). entry_of i t) e)

  pub value_is : {o : Operator} → k ≡ E.Value o → entry_of (E.Value o) t ≡ entry_of k t
  value_is e = sym (ap (λ (i : Entry). entry_of i t) e)
