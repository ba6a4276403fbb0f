-- What the scan of a number passed is a JSON number up to the place where it stopped, and it is held as the number that
-- it spells.
use mathlib.Core.Path.{◌≡◌, refl, sym, ap, ◌∙◌, subst}
use mathlib.Core.List.{List, [], ◌∷◌, map}
use Prim.Native.Nat.{ℕ, ◌+◌, ◌≤◌, ◌<◌}
use native.Mathlib.Omega.{arith}
use native.Mathlib.Decide.{dec_lt}
use lib.ListN.{length, drop, length-drop}
use Rattle.chars.specs.Base.{part}
use Rattle.text.specs.Json.{number, depth, Number, unsigned, a_number}
use Rattle.text.specs.Machine.{byte, integer}
use Rattle.text.specs.Reading.{Done}
use Rattle.text.proofs.Laws.Places.{Alive, done_alive, not_whole, past_end}
use Rattle.text.proofs.Laws.Taking.Items.{alive_byte}
use Rattle.text.proofs.Laws.Taking.Numbers.{took_plain}
use Rattle.syntax.specs.Limits.{greatest}
use Rattle.syntax.specs.Forms.{number_in}
use Rattle.syntax.specs.PolicyLayout.{number_of_json}
use Rattle.syntax.specs.Told.{told_number}
use Rattle.std.specs.Prelude.{Option, Some}
use Rattle.syntax.proofs.Laws.Numbers.{number_small}
use Rattle.held.specs.Held.{held_number}
use Rattle.parts.specs.Holding.{Extends}
use Rattle.parts.proofs.Laws.Halves.{number_told}
use Rattle.straight.specs.Taking.{Taken}

-- ---- where the scan stopped

-- bytes that are all that is owed end with the text
owed_length : {s : List ℕ} (w : List ℕ) {i : ℕ} → Alive s (map byte w) i → i + length w ≡ length s
owed_length {s} [] {i} a = by (dec_lt i (length s))
  where
    by : Dec (i < length s) → i + 0 ≡ length s
    by (yes h) = absurd (not_whole (sym (past_end s i h) ∙ a.lives))
    by (no h) = omega (arith, a.high)
owed_length (b ∷ w) a =
    let d = alive_byte b (map byte w) a in
    let l = owed_length w d.next in
    omega arith

-- ---- a number

scanned_number : {s : List ℕ} {v e : ℕ} → Done s (integer ∷ []) v e → Number (part s v e)
scanned_number {s} {v} {e} d =
    let r = took_plain (map byte (drop e s)) (done_alive d) in
    let g = r.good in
    let l = owed_length (drop e s) r.next in
    let z : r.stop ≡ e = omega (arith, length-drop e s, d.high, r.spelt.inside) in
    let w : part s v e ≡ r.word = ap (part s v) (sym z) ∙ r.spelt.is in
    subst Number (sym (w ∙ g.is)) (unsigned g.int_is g.frac_is g.exp_is)

plain_is : (w : List ℕ) → number_of_json (number w) ≡ number_in w
unfolding number_of_json
plain_is w = refl

module _ {s : List ℕ} {v e n : ℕ} {r : Option ℕ} (d : Done s (integer ∷ []) v e)
    (told : told_number r ≡ number_in (part s v e)) (is : r ≡ Some n) where
  pub plain_bound : n ≤ greatest
  plain_bound = number_small (part s v e) (number_told told is)

  pub plain_taken : {run run' : List ℕ} {at p : ℕ} → Extends run run' at (held_number n) p
      → Taken held_number number_of_json 0 s run run' v at p e
  unfolding depth
  plain_taken x =
      record {
        tree = number (part s v e);
        reads = a_number (record { order = d.low; inside = d.high; is = refl }) (scanned_number d);
        shallow = omega arith;
        laid = record { thing = n; said = plain_is (part s v e) ∙ number_told told is; extends = x };
      }
