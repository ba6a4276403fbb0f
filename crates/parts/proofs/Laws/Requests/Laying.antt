-- Numbers laid in a run, and what a held text that says a number tells.
use mathlib.Core.Path.{◌≡◌, sym, ap, ◌∙◌, subst}
use mathlib.Core.List.{List, [], ◌∷◌}
use Prim.Native.Nat.{ℕ, ◌+◌, ◌-◌, ◌≤◌}
use native.Mathlib.Omega.{arith}
use lib.ListN.{length, set}
use borrow.Rule.Slice.PartMut.{mid_of}
use Rattle.syntax.specs.Policy as P
use Rattle.syntax.specs.Forms.{Reading, wrong, read, number_in}
use Rattle.syntax.specs.Members.{then}
use Rattle.syntax.specs.RecordLayout.{as_number}
use Rattle.held.specs.Held.{held_text}
use Rattle.syntax.specs.Told.{told_number}
use Rattle.parts.specs.Room.{Roomy}
use Rattle.parts.specs.Holding.{Extends, Laid}
use Rattle.std.specs.Prelude.{Option, Some, None}
use Rattle.parts.specs.Requests.{typed_as}
use Rattle.parts.proofs.Laws.Extends.{extends_none, extends_front, extends_within}
use Rattle.parts.proofs.Laws.Formed.{part_is, then_read}
use Rattle.parts.specs.declared.words.ValueType.TheVariants as V

pub extends_two :
    (run : List ℕ) (at a b : ℕ) → at + 2 ≤ length run
    → Extends run (set (set run (at + 1) b) at a) at (a ∷ b ∷ []) (at + 2)
extends_two run at a b h =
    let z : Extends run run (at + 1 + 1) [] (at + 2) =
    subst (Extends run run (at + 1 + 1) []) (omega arith) (extends_none run (at + 1 + 1)) in
    extends_front a (omega arith) (extends_front b (omega arith) z)

pub extends_one : (run : List ℕ) (at a : ℕ) → at + 1 ≤ length run → Extends run (set run at a) at (a ∷ []) (at + 1)
extends_one run at a h = extends_front a (omega arith) (extends_none run (at + 1))

-- ---- a number that a held text says

some_digit : (cs : List ℕ) {n : ℕ} → number_in cs ≡ read n → 1 ≤ length cs
unfolding number_in
some_digit [] e = absurd (let z : ◌≡◌ {A = ℕ} 0 1 = cc in omega arith)
some_digit (c ∷ cs) e = omega arith

module _ {run run' : List ℕ} {at p : ℕ} {x : Reading (List ℕ)} (low : at ≤ length run)
    (d : Laid held_text run run' at x p) (r : Option ℕ) (t : told_number r ≡ number_in (mid_of (at + 1) (p - (at + 1)) run'))
  where
    told : number_in d.thing ≡ told_number r
    told = ap number_in (sym (part_is low d)) ∙ sym t

    pub number_no : r ≡ None → then x (typed_as V.Number) ≡ wrong
    number_no e =
        then_read (typed_as V.Number) d.said ∙ ap as_number (told ∙ ap told_number e)

    module _ (n : ℕ) (e : r ≡ Some n) where
      pub number_read : number_in d.thing ≡ read n
      number_read = told ∙ ap told_number e

      pub number_said : then x (typed_as V.Number) ≡ read (P.number n)
      number_said = then_read (typed_as V.Number) d.said ∙ ap as_number number_read

      pub number_room : length run ≤ 16384 → Roomy run' at 2
      number_room b =
          let q = extends_within d.extends low in
          record {
            room = omega (arith, some_digit d.thing number_read, d.extends.place, q);
            bounded = omega (arith, d.extends.size);
          }
