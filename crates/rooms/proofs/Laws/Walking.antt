-- A walk over the notes of a policy's entries and the rows of a room, side by side.
--   Ahead ..         the notes from place d on, and as many rows from place a on;  ahead_start, ahead_next, ahead_end
--   valued-..        what a note tells of a value
use mathlib.Core.Path.{◌≡◌, refl, sym, ap, ◌∙◌, subst}
use mathlib.Core.List.{List, [], ◌∷◌}
use Prim.Native.Nat.{ℕ, ◌+◌, ◌*◌, ◌≤◌, ◌<◌}
use native.Mathlib.Omega.{arith}
use native.Mathlib.Numerals.{add-one}
use lib.ListN.{length, get_or, drop, drop_of_length-le}
use lib.Seq.{drop-cons}
use Rattle.std.specs.Prelude.{Option, None}
use Rattle.syntax.specs.Policy.{Value}
use Rattle.decision.specs.Decision.{Found, nothing, found}
use Rattle.candidates.specs.Rows.{row_numbers}
use Rattle.rooms.specs.Rooms.{Slot}
use Rattle.rooms.specs.Listing.{SlotAt, Valued, no_value, a_value, Told, all_told, one_told}
use Rattle.rooms.specs.Walking.{RightAt}
use Rattle.candidates.specs.declared.places.Place.TheVariants as P
use Rattle.rooms.specs.declared.listing.Handling.TheVariants as H
use Rattle.rooms.specs.declared.listing.Note.{Note}

-- ---- the list

module _ (run at : List ℕ) (notes : List Note) (size : ℕ) where
  pub record Ahead (d a : ℕ) (ss : List Slot) (fs : List Found) : Type 0 where
    pub told : Told run at (drop d notes) ss fs
    pub rows : a + row_numbers * length ss ≤ size

  pub record Next (d a : ℕ) (x : Note) (ss : List Slot) (fs : List Found) : Type 0 where
    pub slot : Slot
    pub value : Found
    pub slots : List Slot
    pub values : List Found
    pub is : ss ≡ slot ∷ slots
    pub with_values : fs ≡ value ∷ values
    pub stands : SlotAt run x slot
    pub valued : Valued at x.value value
    pub room : a + row_numbers ≤ size
    pub ahead : Ahead (d + 1) (a + row_numbers) slots values

module _ {run at : List ℕ} {notes : List Note} {size : ℕ} where
  pub ahead_start : {ss : List Slot} {fs : List Found} → Told run at notes ss fs → row_numbers * length ss ≤ size
      → Ahead run at notes size 0 0 ss fs
  ahead_start l h = record { told = l; rows = omega arith }

  module _ {d a : ℕ} where
    pub ahead_next : {ss : List Slot} {fs : List Found} (z : Note) → Ahead run at notes size d a ss fs → d < length notes
        → Next run at notes size d a (get_or notes d z) ss fs
    ahead_next z w k =
        by (drop d notes) w.told w.rows
        (drop-cons notes d z k ∙ ap (λ (n : ℕ). get_or notes d z ∷ drop n notes) (sym (add-one d)))
      where
        by :
            (xs : List Note) {ss : List Slot} {fs : List Found} → Told run at xs ss fs
            → a + row_numbers * length ss ≤ size → xs ≡ get_or notes d z ∷ drop (d + 1) notes
            → Next run at notes size d a (get_or notes d z) ss fs
        by xs all_told h e = absurd (omega (arith, ap length e))
        by xs (one_told {x = y} {s = s} {f = f} {xs = ys} {ss = ss} {fs = fs} n t) h e =
            let same : y ≡ get_or notes d z = cc in
            let rest : ys ≡ drop (d + 1) notes = cc in
            record {
              slot = s;
              value = f;
              slots = ss;
              values = fs;
              is = refl;
              with_values = refl;
              stands = subst (λ (z : Note). SlotAt run z s) same n.slot;
              valued = subst (λ (z : Note). Valued at z.value f) same n.value;
              room = omega (arith, h);
              ahead = record {
                told = subst (λ (zs : List Note). Told run at zs ss fs) rest t;
                rows = omega (arith, h);
              };
            }

    pub ahead_end : {ss : List Slot} {fs : List Found} → Ahead run at notes size d a ss fs → length notes ≤ d → ss ≡ []
    ahead_end w k = by (drop d notes) w.told (drop_of_length-le notes k)
      where
        by : (xs : List Note) {ss : List Slot} {fs : List Found} → Told run at xs ss fs → xs ≡ [] → ss ≡ []
        by xs all_told e = refl
        by xs (one_told n t) e = absurd (omega (arith, ap length e))

-- what the code reads beyond a list's end
abbrev pub blank : Note
blank = record { handling = H.Nothing; place = P.Action; entry = 0; value = None }

-- ---- values

pub valued_none : {at : List ℕ} {o : Option ℕ} {f : Found} → Valued at o f → o ≡ None → f ≡ nothing
valued_none no_value z = refl
valued_none (a_value l) z = cc

pub right_value : {s : Slot} {f : Found} {y : Value} → RightAt s f → f ≡ found y → RightAt s (found y)
right_value {s} r e = subst (RightAt s) e r
