-- Holding: what stands in a lent run after something was held in it.
--   Extends run run' at xs p   run' is run up to place at, then xs, up to place p; what lies behind p is not said
--   Holds h run run' at x r    what x reads lies in the run as h holds it; or x is wrong
--   HoldsTo h run run' at x e r     likewise, and what says x ends at e
--   GathersTo h run run' at x e r   likewise for several things, with their count
--   entry_of k t                the entry of a list of kind k that t is
use Rattle.std.specs.Prelude.{◌≡◌, Bool, true, false, List, ◌++◌, ℕ, ◌+◌, length, take, Option, Some, None}
use Rattle.text.specs.Json.{Json}
use Rattle.text.specs.declared.walk.Kind.{Kind}
use Rattle.text.specs.declared.walk.Kind.TheVariants as K
use Rattle.syntax.specs.Policy as P
use Rattle.syntax.specs.Forms.{Reading, wrong, read}
use Rattle.syntax.specs.PolicyLayout.{as_text, action_of, resource_of, value_of}
use Rattle.held.specs.Held.{held_each}
use Rattle.parts.specs.Spoken.{operator_is}
use Rattle.syntax.specs.Told.{told_number}
use Rattle.parts.specs.declared.holding.Ended.{Ended}
use Rattle.parts.specs.declared.holding.Listed.{Listed}
use Rattle.parts.specs.declared.entries.Entry.{Entry}
use Rattle.parts.specs.declared.entries.Entry.TheVariants as E

-- ---- kinds of value

abbrev pub is_text : Kind → Bool
is_text K.Null = false
is_text K.True = false
is_text K.False = false
is_text K.Number = false
is_text K.Text = true
is_text K.List = false
is_text K.Object = false

abbrev pub is_number : Kind → Bool
is_number K.Null = false
is_number K.True = false
is_number K.False = false
is_number K.Number = true
is_number K.Text = false
is_number K.List = false
is_number K.Object = false

abbrev pub is_list : Kind → Bool
is_list K.Null = false
is_list K.True = false
is_list K.False = false
is_list K.Number = false
is_list K.Text = false
is_list K.List = true
is_list K.Object = false

abbrev pub is_object : Kind → Bool
is_object K.Null = false
is_object K.True = false
is_object K.False = false
is_object K.Number = false
is_object K.Text = false
is_object K.List = false
is_object K.Object = true

-- ---- the run afterwards

pub record Extends (run run' : List ℕ) (at : ℕ) (xs : List ℕ) (p : ℕ) : Type 0 where
  pub size : length run' ≡ length run
  pub place : p ≡ at + length xs
  pub is : take p run' ≡ take at run ++ xs

pub record Laid {A : Type 0} (h : A → List ℕ) (run run' : List ℕ) (at : ℕ) (x : Reading A) (p : ℕ) : Type 0 where
  pub thing : A
  pub said : x ≡ read thing
  pub extends : Extends run run' at (h thing) p

pub record Gathered {A : Type 0} (h : A → List ℕ) (run run' : List ℕ) (at : ℕ) (x : Reading (List A)) (p n : ℕ)
    : Type 0 where
  pub things : List A
  pub said : x ≡ read things
  pub count : n ≡ length things
  pub extends : Extends run run' at (held_each h things) p

-- what is read is wrong; the run may have been written on, its length stays
pub record Left {A : Type 0} (run run' : List ℕ) (x : Reading A) : Type 0 where
  pub size : length run' ≡ length run
  pub said : x ≡ wrong

abbrev pub Holds : {A : Type 0} → (A → List ℕ) → List ℕ → List ℕ → ℕ → Reading A → Option ℕ → Type 0
Holds h run run' at x (Some p) = Laid h run run' at x p
Holds h run run' at x None = Left run run' x

abbrev pub HoldsTo : {A : Type 0} → (A → List ℕ) → List ℕ → List ℕ → ℕ → Reading A → ℕ → Option Ended → Type 0
HoldsTo h run run' at x e (Some r) = (Laid h run run' at x r.past) × (r.end ≡ e)
HoldsTo h run run' at x e None = Left run run' x

abbrev pub GathersTo : {A : Type 0} → (A → List ℕ) → List ℕ → List ℕ → ℕ → Reading (List A) → ℕ → Option Listed → Type 0
GathersTo h run run' at x e (Some r) = (Gathered h run run' at x r.past r.count) × (r.end ≡ e)
GathersTo h run run' at x e None = Left run run' x

-- nothing before place at was changed
pub record Kept (run run' : List ℕ) (at : ℕ) : Type 0 where
  pub size : length run' ≡ length run
  pub is : take at run' ≡ take at run

-- the number that x reads; where it is one, nothing before place at was changed
pub record Finds (run run' : List ℕ) (at : ℕ) (x : Reading ℕ) (r : Option ℕ) : Type 0 where
  pub size : length run' ≡ length run
  pub said : told_number r ≡ x
  pub kept : (n : ℕ) → x ≡ read n → Kept run run' at

-- ---- entries by the kind of their list

abbrev pub entry_of : Entry → Json → Reading P.Value
entry_of E.Action t = as_text (action_of t)
entry_of E.Resource t = as_text (resource_of t)
entry_of (E.Value o) t = value_of (operator_is o) t
