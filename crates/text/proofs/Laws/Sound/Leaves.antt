-- A value without inner values is found by its first byte, which tells the items that are owed behind it.
use mathlib.Core.Path.{◌≡◌, refl, ap, subst}
use mathlib.Core.List.{List, [], ◌∷◌, ◌++◌, map}
use Prim.Native.Nat.{ℕ, ◌+◌, ◌≤◌, ◌<◌}
use native.Mathlib.Omega.{arith}
use lib.ListN.{length, get_or}
use Rattle.text.specs.Json.{Json, number, string, depth, Number, unsigned, negative, Spelt, a_value, Reads}
use Rattle.text.specs.Json.{a_number, a_string}
use Rattle.text.specs.Machine.{Item, go, byte, text, integer, value, move}
use Rattle.text.proofs.Laws.Places.{Alive}
use Rattle.text.proofs.Laws.Parts.{spelt_none, spelt_cons}
use Rattle.text.proofs.Laws.Taking.Items.{Took, alive_takes, alive_alike, took_cons, alive_byte}
use Rattle.text.proofs.Laws.Taking.Numbers.{plain_later, took_plain}
use Rattle.text.proofs.Laws.Taking.Strings.{alive_text, closed_quoted}
use Rattle.text.proofs.Laws.Moves.Values.{value_digit, value_minus, value_text}
use Rattle.text.proofs.Laws.Sound.Finding.{Value, found}

took_word : {s : List ℕ} (w : List ℕ) {i : ℕ} (ys : List Item) → Alive s (map byte w ++ ys) i → Took (λ v. v ≡ w) s ys i
took_word [] ys v = record { word = []; stop = _; spelt = spelt_none v.high; good = refl; next = v }
took_word (b ∷ w) ys v =
    let p = alive_byte b (map byte w ++ ys) v in
    let r = took_word w ys p.next in
    took_cons p.at r (ap (λ (l : List ℕ). b ∷ l) r.good)

module _ {s : List ℕ} {i : ℕ} (n : ℕ) (ys : List Item) (v : Alive s (value n ∷ ys) i) (h : i < length s) where
  pub word_value : (b : ℕ) (w : List ℕ) (t : Json) → get_or s i 0 ≡ b → move (value n) (get_or s i 0) ≡ go (map byte w)
      → ((e : ℕ) → Spelt s (b ∷ w) i e → Reads s (a_value t) i e) → depth t ≡ 0 → Value s n ys i
  word_value b w t e m make z =
      let r = took_word w ys (alive_takes (value n) ys v (map byte w) h m) in
      let p = subst (λ (x : List ℕ). Spelt s x (i + 1) r.stop) r.good r.spelt in
      let q = make r.stop (spelt_cons (record { inside = h; is = e }) p) in
      found t r.stop q (omega arith) (omega (arith, r.spelt.order)) r.next

  pub string_value : get_or s i 0 ≡ 34 → Value s n ys i
  unfolding depth
  string_value e =
      let r = alive_text ys (alive_takes (value n) ys v (text ∷ []) h (value_text (get_or s i 0) n e)) in
      let q = closed_quoted (record { inside = h; is = e }) r in
      found (string r.word) (r.close + 1) (a_string q) (omega arith) (omega (arith, r.spelt.order)) r.next

  pub negative_value : get_or s i 0 ≡ 45 → Value s n ys i
  unfolding depth
  negative_value e =
      let r = took_plain ys (alive_takes (value n) ys v (integer ∷ []) h (value_minus (get_or s i 0) n e)) in
      let g = r.good in
      let p = spelt_cons (record { inside = h; is = e }) r.spelt in
      let w : Number (45 ∷ r.word) = rw g.is (negative g.int_is g.frac_is g.exp_is) in
      found (number (45 ∷ r.word)) r.stop (a_number p w) (omega arith) (omega (arith, r.spelt.order)) r.next

  pub unsigned_value : 48 ≤ get_or s i 0 → get_or s i 0 < 58 → Value s n ys i
  unfolding depth
  unsigned_value l u =
      let r = took_plain ys (alive_alike (value n) ys v integer h (value_digit (get_or s i 0) n l u)) in
      let g = r.good in
      let w : Number r.word = rw g.is (unsigned g.int_is g.frac_is g.exp_is) in
      found (number r.word) r.stop (a_number r.spelt w) (omega arith) (plain_later g r.spelt) r.next
