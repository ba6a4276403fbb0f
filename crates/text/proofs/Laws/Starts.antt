-- A value's first byte is told by its production: never white space, never the end of a list.
use mathlib.Core.Path.{◌≡◌, refl}
use mathlib.Core.List.{List}
use mathlib.Core.Logic.{⊎_elim}
use Prim.Native.Nat.{ℕ, zero, ◌≤◌}
use native.Mathlib.Omega.{arith}
use Rattle.chars.specs.Base.{At, one_of}
use Rattle.text.specs.Json.{Json, Values, Members, zero, from_1_9, Number, unsigned, negative, Spelt, a_value}
use Rattle.text.specs.Json.{elements, members, Reads, a_null, a_true, a_false, a_number, a_string, empty_list}
use Rattle.text.specs.Json.{some_list, element, empty_object, some_object, member}
use Rattle.text.specs.Machine.{pass, ws, move}
use Rattle.text.proofs.Laws.Parts.{spelt_first}
use Rattle.text.proofs.Laws.Moves.Bytes.{ws_over}

pub record Starts (s : List ℕ) (i : ℕ) : Type 0 where
  pub first : ℕ
  pub at : At s i first
  pub black : move ws first ≡ pass
  pub inner : first ≡ 93 → ⊥

starts : {s : List ℕ} {i : ℕ} (b : ℕ) → At s i b → move ws b ≡ pass → (b ≡ 93 → ⊥) → Starts s i
starts b p m h = record { first = b; at = p; black = m; inner = h }

-- a number begins with its sign or a digit
pub record Numeral (s : List ℕ) (i : ℕ) : Type 0 where
  pub first : ℕ
  pub at : At s i first
  pub low : 45 ≤ first
  pub high : first ≤ 57

pub number_first : {s w : List ℕ} {i e : ℕ} → Number w → Spelt s w i e → Numeral s i
number_first (unsigned zero f x) p =
    record { first = 48; at = spelt_first p; low = omega arith; high = omega arith }
number_first (unsigned (from_1_9 {d} h t) f x) p =
    record { first = d; at = spelt_first p; low = omega (arith, h.low); high = h.high }
number_first (negative i f x) p =
    record { first = 45; at = spelt_first p; low = omega arith; high = omega arith }

number_starts : {s : List ℕ} {i : ℕ} → Numeral s i → Starts s i
number_starts b =
    let black = ws_over b.first (omega arith) (⊎_elim (λ e. omega arith) (λ e. omega arith)) in
    starts b.first b.at black (omega arith)

pub value_starts : {s : List ℕ} {i e : ℕ} {t : Json} → Reads s (a_value t) i e → Starts s i
unfolding move one_of
value_starts (a_null p) = starts 110 (spelt_first p) refl (omega arith)
value_starts (a_true p) = starts 116 (spelt_first p) refl (omega arith)
value_starts (a_false p) = starts 102 (spelt_first p) refl (omega arith)
value_starts (a_number p n) = number_starts (number_first n p)
value_starts (a_string p) = starts 34 p.opens refl (omega arith)
value_starts (empty_list o w c) = starts 91 o refl (omega arith)
value_starts (some_list o w r) = starts 91 o refl (omega arith)
value_starts (empty_object o w c) = starts 123 o refl (omega arith)
value_starts (some_object o w r) = starts 123 o refl (omega arith)

pub elements_start : {s : List ℕ} {i e : ℕ} {ts : Values} → Reads s (elements ts) i e → Starts s i
elements_start (element v r) = value_starts v

pub members_start : {s : List ℕ} {i e : ℕ} {ms : Members} → Reads s (members ms) i e → At s i 34
members_start (member q w o x v r) = q.opens
