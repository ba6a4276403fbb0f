-- A text judged where it lies in the run: tested, rewritten character by character, or its escapes resolved.
use mathlib.Core.Path.{◌≡◌, ◌∙◌}
use mathlib.Core.Bool.{Bool, true}
use mathlib.Core.List.{List}
use Prim.Native.Nat.{ℕ, ◌+◌, ◌-◌, ◌≤◌}
use native.Mathlib.Omega.{arith}
use lib.ListN.{length, set}
use borrow.Rule.Slice.PartMut.{mid_of, put_mid}
use Rattle.text.specs.Json.{Json}
use Rattle.syntax.specs.Forms.{Reading, symbols_of}
use Rattle.syntax.specs.Members.{then}
use Rattle.syntax.specs.Told.{converted}
use Rattle.std.specs.Prelude.{Option, Some}
use Rattle.held.specs.Held.{held_text}
use Rattle.parts.specs.Room.{Roomy}
use Rattle.parts.proofs.Laws.Formed.{past_first, past_within, part_told, relaid_by, formed, formed_yes}
use Rattle.parts.proofs.Laws.Converted.{symbols_few, symbols_some, symbols_size}
use Rattle.straight.specs.Taking.{Taken}
use Rattle.straight.proofs.Laws.Taking.{retaken}

module _ {f : Json → Reading (List ℕ)} {d : ℕ} {s run run' : List ℕ} {v at p e : ℕ} (room : Roomy run at 0)
    (t : Taken held_text f d s run run' v at p e) where
  low : at ≤ length run
  low = omega (arith, room.room)

  pub text_first : at + 1 ≤ p
  text_first = past_first low t.laid

  pub text_within : p ≤ length run'
  text_within = past_within low t.laid

  -- tested where it lies
  pub text_formed :
      {g : Json → Reading (List ℕ)} {b : Bool} (test : List ℕ → Bool)
      → g t.tree ≡ formed test (λ cs. cs) (f t.tree) → b ≡ test (mid_of (at + 1) (p - (at + 1)) run') → b ≡ true
      → Taken held_text g d s run run' v at p e
  text_formed test q k y =
      retaken t
      (record {
        thing = t.laid.thing;
        said = q ∙ formed_yes test (λ cs. cs) t.laid.said (part_told low t.laid test k y);
        extends = t.laid.extends;
      })

  -- tested, and rewritten character by character
  pub text_rewritten :
      {g : Json → Reading (List ℕ)} {b : Bool} (test : List ℕ → Bool) (w : List ℕ → List ℕ)
      → ((cs : List ℕ) → length (w cs) ≡ length cs) → g t.tree ≡ formed test w (f t.tree)
      → b ≡ test (mid_of (at + 1) (p - (at + 1)) run') → b ≡ true → (out : List ℕ)
      → out ≡ w (mid_of (at + 1) (p - (at + 1)) run')
      → Taken held_text g d s run (put_mid (at + 1) (p - (at + 1)) run' out) v at p e
  text_rewritten test w same q k y out o =
      retaken t
      (record {
        thing = w t.laid.thing;
        said = q ∙ formed_yes test w t.laid.said (part_told low t.laid test k y);
        extends = relaid_by low t.laid w out o (same t.laid.thing);
      })

  -- its escapes resolved
  module _ (w : Bool) (out : List ℕ) (r : Option ℕ) (n : ℕ)
      (told : (r, out) ≡ converted (symbols_of w (mid_of (at + 1) (p - (at + 1)) run'))
      (mid_of (at + 1) (p - (at + 1)) run')) (is : r ≡ Some n) where
    pub symbols_room : at + 1 + n ≤ length run
    symbols_room =
        omega (
          arith,
          symbols_few low t.laid w out r told n is,
          text_within,
          t.laid.extends.place,
          t.laid.extends.size,
        )

    pub symbols_bound : n ≤ 16384
    symbols_bound = omega (arith, symbols_room, room.bounded)

    pub symbols_whole : length (put_mid (at + 1) (p - (at + 1)) run' out) ≡ length run
    symbols_whole = symbols_size low t.laid w out r told

    pub symbols_taken :
        Taken held_text (λ u. then (f u) (symbols_of w)) d s run (set (put_mid (at + 1) (p - (at + 1)) run' out) at n) v at
        (at + 1 + n) e
    symbols_taken = retaken t (symbols_some low t.laid w out r told n is)
