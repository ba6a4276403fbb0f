-- Numbers of a policy: where they stand, how great they are, and that there is room for their two halves.
use mathlib.Core.Path.{◌≡◌, refl, sym, ap, ◌∙◌}
use mathlib.Core.Bool.{true, false}
use mathlib.Core.List.{List, [], ◌∷◌}
use Prim.Native.Nat.{ℕ, ◌≤◌}
use native.Mathlib.Omega.{arith}
use lib.ListN.{length}
use Rattle.chars.specs.Base.{part}
use Rattle.text.specs.Json.{Json, null, bool, number, string, list, object, a_value, Reads, a_number, Spelt}
use Rattle.text.specs.Contents.{kind_of, Stands}
use Rattle.syntax.specs.Limits.{greatest}
use Rattle.syntax.specs.Forms.{Reading, wrong, read, number_in}
use Rattle.syntax.specs.Members.{then, characters, characters_of}
use Rattle.syntax.specs.PolicyLayout.{number_of_json}
use Rattle.parts.specs.Room.{cost}
use Rattle.syntax.specs.Told.{told_number}
use Rattle.std.specs.Prelude.{Option, Some, None}
use Rattle.parts.specs.Holding.{is_number}
use Rattle.parts.proofs.Laws.Holding.{never}
use Rattle.syntax.proofs.Laws.Numbers.{number_small}

-- ---- a JSON number

pub record Spelling (s : List ℕ) (t : Json) (v e : ℕ) : Type 0 where
  pub order : v ≤ e
  pub inside : e ≤ length s
  pub is : number_of_json t ≡ number_in (part s v e)

spelt : {s w : List ℕ} {v e : ℕ} → Reads s (a_value (number w)) v e → Spelt s w v e
spelt (a_number p n) = p

pub number_spelling :
    (s : List ℕ) (t : Json) (v e : ℕ) → Stands s t v e → is_number (kind_of t) ≡ true → Spelling s t v e
unfolding number_of_json
number_spelling s null v e p h = never h
number_spelling s (bool true) v e p h = never h
number_spelling s (bool false) v e p h = never h
number_spelling s (number w) v e p h =
    let q = spelt p.reads in
    record { order = q.order; inside = q.inside; is = ap number_in (sym q.is) }
number_spelling s (string w) v e p h = never h
number_spelling s (list ts) v e p h = never h
number_spelling s (object ms) v e p h = never h

-- another value is one by its characters
pub number_characters : (t : Json) → is_number (kind_of t) ≡ false → number_of_json t ≡ then (characters_of t) number_in
unfolding number_of_json
number_characters null h = refl
number_characters (bool true) h = refl
number_characters (bool false) h = refl
number_characters (number w) h = never (sym h)
number_characters (string w) h = refl
number_characters (list ts) h = refl
number_characters (object ms) h = refl

-- ---- its size

in_then : (x : Reading (List ℕ)) {n : ℕ} → then x number_in ≡ read n → n ≤ greatest
in_then wrong e = absurd (let y : ◌≡◌ {A = ℕ} 0 1 = cc in omega arith)
in_then (read cs) e = number_small cs e

pub not_read : {n : ℕ} → ◌≡◌ {A = Reading ℕ} wrong (read n) → ⊥
not_read e = let y : ◌≡◌ {A = ℕ} 0 1 = cc in omega arith

pub json_small : (t : Json) {n : ℕ} → number_of_json t ≡ read n → n ≤ greatest
unfolding number_of_json
json_small null e = absurd (not_read e)
json_small (bool b) e = absurd (not_read e)
json_small (number w) e = number_small w e
json_small (string w) e = in_then (characters w) e
json_small (list ts) e = absurd (not_read e)
json_small (object ms) e = absurd (not_read e)

-- a number has room for its two halves
pub json_room : (t : Json) {n : ℕ} → number_of_json t ≡ read n → 2 ≤ cost t
unfolding number_of_json cost number_in
json_room null e = absurd (not_read e)
json_room (bool b) e = absurd (not_read e)
json_room (number []) e = absurd (not_read e)
json_room (number (c ∷ w)) e = omega arith
json_room (string w) e = omega arith
json_room (list ts) e = absurd (not_read e)
json_room (object ms) e = absurd (not_read e)

-- ---- the answer

pub number_told : {r : Option ℕ} {x : Reading ℕ} {n : ℕ} → told_number r ≡ x → r ≡ Some n → x ≡ read n
number_told f e = sym f ∙ ap told_number e

pub wrong_told : {r : Option ℕ} {x : Reading ℕ} → told_number r ≡ x → r ≡ None → x ≡ wrong
wrong_told f e = sym f ∙ ap told_number e
