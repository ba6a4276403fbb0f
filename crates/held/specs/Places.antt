-- Places: what the walks over a held run find at a place.
--   Operating k    k is an operator's number
--   Labelled       a number, a text behind its length, and more: how rows, context entries and statements begin
use Rattle.std.specs.Prelude.{◌≡◌, List, ◌∷◌, ◌++◌, ℕ}
use Rattle.syntax.specs.Policy.{Operator}
use Rattle.held.specs.Held.{held_text, operator_number}

pub record Operating (k : ℕ) : Type 0 where
  pub operator : Operator
  pub is : k ≡ operator_number operator

pub record Labelled : Type 0 where
  pub first : ℕ
  pub label : List ℕ
  pub more : List ℕ

abbrev pub held_labelled : Labelled → List ℕ
held_labelled x = x.first ∷ (held_text x.label ++ x.more)
