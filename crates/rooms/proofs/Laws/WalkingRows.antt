-- What a walk over the rows of a room has tested, charged and joined so far.
use mathlib.Core.Path.{◌≡◌, refl, sym, ap, ◌∙◌, subst}
use mathlib.Core.Bool.{Bool, true, false}
use mathlib.Core.List.{List, ◌∷◌, ◌++◌, append_assoc}
use Prim.Native.Nat.{ℕ, ◌+◌, ◌-◌, ◌*◌, ◌≤◌, ◌<◌}
use native.Mathlib.Omega.{arith}
use lib.ListN.{length, get_or, take, drop, length-append, take-append-drop}
use lib.Seq.{drop-drop, length-take-le, take_at, drop_at}
use borrow.Rule.Slice.PartMut.{mid_of, put_mid, Post-is, mid_len, same_len_mid}
use Rattle.syntax.specs.Forms.{both}
use Rattle.parts.proofs.Laws.Slots.{both_true}
use Rattle.decision.specs.Decision.{Found}
use Rattle.candidates.specs.Rows.{row_numbers, is_zero}
use Rattle.rooms.specs.Rooms.{Slot, row_fits, fits, row_fed, fed, row_met, met}
use Rattle.rooms.specs.Listing.{Told, all_told, one_told}
use Rattle.rooms.specs.declared.listing.Note.{Note}
use Rattle.rooms.specs.Walking.{RightAt, Right, one_right}
use Rattle.rooms.proofs.Laws.Walking.{Ahead, Next, ahead_start, ahead_next, ahead_end, blank}

-- as many slots as notes
pub told_many : {run at : List ℕ} {xs : List Note} {ss : List Slot} {fs : List Found} → Told run at xs ss fs
    → length ss ≡ length xs
told_many all_told = refl
told_many (one_told n t) = omega (arith, told_many t)

-- ---- the row at a place

abbrev pub part : ℕ → List ℕ → List ℕ
part a room = mid_of a (a + row_numbers - a) room

pub part_is : (a : ℕ) (room : List ℕ) → part a room ≡ take row_numbers (drop a room)
part_is a room =
    let e : a + row_numbers - a ≡ row_numbers = omega arith in ap (λ (k : ℕ). take k (drop a room)) e

pub part_size : (a : ℕ) (room : List ℕ) → a + row_numbers ≤ length room → length (part a room) ≡ row_numbers
part_size a room h = omega (arith, mid_len a (a + row_numbers) room h)

-- one row written anew
abbrev pub renewed : ℕ → List ℕ → List ℕ → List ℕ
renewed a room ys = put_mid a (a + row_numbers - a) room ys

module _ (a : ℕ) (room ys : List ℕ) (h : a + row_numbers ≤ length room) (n : length ys ≡ row_numbers) where
  renewed_is : renewed a room ys ≡ (take a room ++ ys) ++ drop (a + row_numbers) room
  renewed_is =
      ap (λ (l : List ℕ). take a room ++ (ys ++ l)) (Post-is a (a + row_numbers) room (omega arith))
      ∙ sym (append_assoc (take a room) ys (drop (a + row_numbers) room))

  front : length (take a room ++ ys) ≡ a + row_numbers
  front = length-append (take a room) ys ∙ omega (arith, length-take-le a room (omega (arith, h)), n)

  pub renewed_length : length (renewed a room ys) ≡ length room
  renewed_length = same_len_mid a (a + row_numbers - a) room ys (n ∙ sym (part_size a room h))

  pub renewed_take : take (a + row_numbers) (renewed a room ys) ≡ take a room ++ ys
  renewed_take =
      ap (take (a + row_numbers)) renewed_is
      ∙ take_at (take a room ++ ys) (drop (a + row_numbers) room) (a + row_numbers) front

  pub renewed_drop : drop (a + row_numbers) (renewed a room ys) ≡ drop (a + row_numbers) room
  renewed_drop =
      ap (drop (a + row_numbers)) renewed_is
      ∙ drop_at (take a room ++ ys) (drop (a + row_numbers) room) (a + row_numbers) front

  -- what is to come of all rows, once this one is written
  pub rows_on :
      {rest total : List ℕ} (more : List ℕ → List ℕ) → rest ≡ ys ++ more (drop row_numbers (drop a room))
      → take a room ++ rest ≡ total
      → take (a + row_numbers) (renewed a room ys) ++ more (drop (a + row_numbers) (renewed a room ys)) ≡ total
  rows_on more e t =
      ap (λ (l : List ℕ). l ++ more (drop (a + row_numbers) (renewed a room ys))) renewed_take
      ∙ ap (λ (l : List ℕ). (take a room ++ ys) ++ more l) (renewed_drop ∙ sym (drop-drop row_numbers a room))
      ∙ append_assoc (take a room) ys (more (drop row_numbers (drop a room)))
      ∙ ap (λ (l : List ℕ). take a room ++ l) (sym e) ∙ t

-- ---- tested

pub record Testing (run at : List ℕ) (notes : List Note) (room : List ℕ) (ss : List Slot) (d a : ℕ) : Type 0 where
  pub rest : List Slot
  pub values : List Found
  pub ahead : Ahead run at notes (length room) d a rest values
  pub same : fits rest (drop a room) ≡ fits ss room

module _ {run at : List ℕ} {notes : List Note} where
  module _ (room : List ℕ) where
    pub testing_start : {ss : List Slot} {fs : List Found} → Told run at notes ss fs
        → row_numbers * length ss ≤ length room → Testing run at notes room ss 0 0
    testing_start {ss} {fs} l h = record { rest = ss; values = fs; ahead = ahead_start l h; same = refl }

    module _ {ss : List Slot} {d a : ℕ} (w : Testing run at notes room ss d a) where
      pub testing_now : d < length notes → Next run at notes (length room) d a (get_or notes d blank) w.rest w.values
      testing_now k = ahead_next blank w.ahead k

      -- the row that is tested now
      tested : (k : d < length notes) → let y = testing_now k in
          both (row_fits y.slot (part a room)) (fits y.slots (drop (a + row_numbers) room)) ≡ fits ss room
      unfolding fits
      tested k =
          let y = testing_now k in
          ap (λ (l : List ℕ). both (row_fits y.slot l) (fits y.slots (drop (a + row_numbers) room)))
          (part_is a room)
          ∙ ap (λ (l : List ℕ). both (row_fits y.slot (take row_numbers (drop a room))) (fits y.slots l))
          (sym (drop-drop row_numbers a room))
          ∙ ap (λ (l : List Slot). fits l (drop a room)) (sym y.is) ∙ w.same

      pub testing_not : (k : d < length notes) → row_fits (testing_now k).slot (part a room) ≡ false → false ≡ fits ss room
      testing_not k e =
          sym (ap (λ (b : Bool). both b (fits (testing_now k).slots (drop (a + row_numbers) room))) e) ∙ tested k

      pub testing_next : (k : d < length notes) → row_fits (testing_now k).slot (part a room) ≡ true
          → Testing run at notes room ss (d + 1) (a + row_numbers)
      testing_next k e =
          record {
            rest = (testing_now k).slots;
            values = (testing_now k).values;
            ahead = (testing_now k).ahead;
            same = sym (ap (λ (b : Bool). both b (fits (testing_now k).slots (drop (a + row_numbers) room))) e)
                ∙ tested k;
          }

      pub testing_end : length notes ≤ d → is_zero (drop a room) ≡ fits ss room
      unfolding fits
      testing_end k = ap (λ (l : List Slot). fits l (drop a room)) (sym (ahead_end w.ahead k)) ∙ w.same

      pub testing_inside : a ≤ length room
      testing_inside = omega (arith, w.ahead.rows)

-- ---- rows that fit

fits_both : (s : Slot) (ss : List Slot) (xs : List ℕ) → fits (s ∷ ss) xs ≡ true
    → (row_fits s (take row_numbers xs) ≡ true) × (fits ss (drop row_numbers xs) ≡ true)
unfolding fits
fits_both s ss xs e = both_true (row_fits s (take row_numbers xs)) (fits ss (drop row_numbers xs)) e

module _ {rest slots : List Slot} {slot : Slot} (a : ℕ) (room : List ℕ) (is : rest ≡ slot ∷ slots)
    (fit : fits rest (drop a room) ≡ true) where
  fits_two : (row_fits slot (take row_numbers (drop a room)) ≡ true) × (fits slots (drop row_numbers (drop a room)) ≡ true)
  fits_two = fits_both slot slots (drop a room) (sym (ap (λ (l : List Slot). fits l (drop a room)) is) ∙ fit)

  pub fits_now : row_fits slot (part a room) ≡ true
  fits_now = ap (row_fits slot) (part_is a room) ∙ fits_two.0

  pub fits_later : fits slots (drop (a + row_numbers) room) ≡ true
  fits_later = ap (fits slots) (sym (drop-drop row_numbers a room)) ∙ fits_two.1

-- ---- charged

right_head : {s : Slot} {f : Found} {ss : List Slot} {fs : List Found} → Right (s ∷ ss) (f ∷ fs) → RightAt s f
right_head (one_right x r) = x

right_tail : {s : Slot} {f : Found} {ss : List Slot} {fs : List Found} → Right (s ∷ ss) (f ∷ fs) → Right ss fs
right_tail (one_right x r) = r

pub record Feeding (run at : List ℕ) (notes : List Note) (ss : List Slot) (fs : List Found) (room₀ room : List ℕ) (d a : ℕ)
    : Type 0 where
  pub rest : List Slot
  pub values : List Found
  pub ahead : Ahead run at notes (length room) d a rest values
  pub right : Right rest values
  pub fit : fits rest (drop a room) ≡ true
  pub size : length room ≡ length room₀
  pub same : take a room ++ fed rest values (drop a room) ≡ fed ss fs room₀

module _ {run at : List ℕ} {notes : List Note} where
  pub feeding_start :
      {ss : List Slot} {fs : List Found} (room : List ℕ) → Told run at notes ss fs
      → row_numbers * length ss ≤ length room → Right ss fs → fits ss room ≡ true → Feeding run at notes ss fs room room 0 0
  feeding_start {ss} {fs} room l h r f =
      record {
        rest = ss;
        values = fs;
        ahead = ahead_start l h;
        right = r;
        fit = f;
        size = refl;
        same = refl;
      }

  module _ {ss : List Slot} {fs : List Found} {room₀ room : List ℕ} {d a : ℕ} (w : Feeding run at notes ss fs room₀ room d a) where
    pub feeding_now : d < length notes → Next run at notes (length room) d a (get_or notes d blank) w.rest w.values
    feeding_now k = ahead_next blank w.ahead k

    rights : (k : d < length notes) → Right ((feeding_now k).slot ∷ (feeding_now k).slots)
        ((feeding_now k).value ∷ (feeding_now k).values)
    rights k =
        subst (Right ((feeding_now k).slot ∷ (feeding_now k).slots)) (feeding_now k).with_values
        (subst (λ (l : List Slot). Right l w.values) (feeding_now k).is w.right)

    pub feeding_right : (k : d < length notes) → RightAt (feeding_now k).slot (feeding_now k).value
    feeding_right k = right_head (rights k)

    pub feeding_fits : (k : d < length notes) → row_fits (feeding_now k).slot (part a room) ≡ true
    feeding_fits k = fits_now a room (feeding_now k).is w.fit

    fed_is : (k : d < length notes) → let y = feeding_now k in
        fed w.rest w.values (drop a room)
        ≡ row_fed y.slot y.value (part a room) ++ fed y.slots y.values (drop row_numbers (drop a room))
    unfolding fed
    fed_is k =
        let y = feeding_now k in
        ap (λ (l : List Slot). fed l w.values (drop a room)) y.is
        ∙ ap (λ (l : List Found). fed (y.slot ∷ y.slots) l (drop a room)) y.with_values
        ∙ ap (λ (l : List ℕ). row_fed y.slot y.value l ++ fed y.slots y.values (drop row_numbers
        (drop a room))) (sym (part_is a room))

    pub feeding_next : (k : d < length notes) (ys : List ℕ) → length ys ≡ length (part a room)
        → ys ≡ row_fed (feeding_now k).slot (feeding_now k).value (part a room)
        → Feeding run at notes ss fs room₀ (renewed a room ys) (d + 1) (a + row_numbers)
    feeding_next k ys o e =
        let y = feeding_now k in
        let inside = y.room in
        let c = o ∙ part_size a room inside in
        let same_size = renewed_length a room ys inside c in
        record {
          rest = y.slots;
          values = y.values;
          ahead = subst (λ (m : ℕ). Ahead run at notes m (d + 1) (a + row_numbers) y.slots y.values)
              (sym same_size) y.ahead;
          right = right_tail (rights k);
          fit = ap (fits y.slots) (renewed_drop a room ys inside c) ∙ fits_later a room y.is w.fit;
          size = same_size ∙ w.size;
          same = rows_on a room ys inside c (fed y.slots y.values)
              (fed_is k ∙ ap (λ (l : List ℕ). l ++ fed y.slots y.values (drop row_numbers (drop a room))) (sym e))
              w.same;
        }

    pub feeding_end : length notes ≤ d → room ≡ fed ss fs room₀
    unfolding fed
    feeding_end k =
        sym (take-append-drop a room)
        ∙ ap (λ (l : List Slot). take a room ++ fed l w.values (drop a room)) (sym (ahead_end w.ahead k))
        ∙ w.same

-- ---- joined

pub record Meeting (run at : List ℕ) (notes : List Note) (ss : List Slot) (room₀ other room : List ℕ) (d a : ℕ) : Type 0 where
  pub rest : List Slot
  pub values : List Found
  pub ahead : Ahead run at notes (length room) d a rest values
  pub fit : fits rest (drop a room) ≡ true
  pub other_fit : fits rest (drop a other) ≡ true
  pub size : length room ≡ length room₀
  pub other_size : length other ≡ length room
  pub same : take a room ++ met rest (drop a room) (drop a other) ≡ met ss room₀ other

module _ {run at : List ℕ} {notes : List Note} where
  pub meeting_start :
      {ss : List Slot} {fs : List Found} (room other : List ℕ) → Told run at notes ss fs
      → row_numbers * length ss ≤ length room → length other ≡ length room → fits ss room ≡ true → fits ss other ≡ true
      → Meeting run at notes ss room other room 0 0
  meeting_start {ss} {fs} room other l h o f g =
      record {
        rest = ss;
        values = fs;
        ahead = ahead_start l h;
        fit = f;
        other_fit = g;
        size = refl;
        other_size = o;
        same = refl;
      }

  module _ {ss : List Slot} {room₀ other room : List ℕ} {d a : ℕ} (w : Meeting run at notes ss room₀ other room d a) where
    pub meeting_now : d < length notes → Next run at notes (length room) d a (get_or notes d blank) w.rest w.values
    meeting_now k = ahead_next blank w.ahead k

    pub meeting_fits : (k : d < length notes) → row_fits (meeting_now k).slot (part a room) ≡ true
    meeting_fits k = fits_now a room (meeting_now k).is w.fit

    pub meeting_other : (k : d < length notes) → row_fits (meeting_now k).slot (part a other) ≡ true
    meeting_other k = fits_now a other (meeting_now k).is w.other_fit

    met_is : (k : d < length notes) → let y = meeting_now k in
        met w.rest (drop a room) (drop a other)
        ≡ row_met y.slot (part a room) (part a other)
        ++ met y.slots (drop row_numbers (drop a room)) (drop (a + row_numbers) other)
    unfolding met
    met_is k =
        let y = meeting_now k in
        ap (λ (l : List Slot). met l (drop a room) (drop a other)) y.is
        ∙ ap (λ (l : List ℕ). row_met y.slot (take row_numbers (drop a room)) (take row_numbers (drop a other))
        ++ met y.slots (drop row_numbers (drop a room)) l) (drop-drop row_numbers a other)
        ∙ ap (λ (l : List ℕ). row_met y.slot l (take row_numbers (drop a other))
        ++ met y.slots (drop row_numbers (drop a room)) (drop (a + row_numbers) other)) (sym (part_is a room))
        ∙ ap (λ (l : List ℕ). row_met y.slot (part a room) l
        ++ met y.slots (drop row_numbers (drop a room)) (drop (a + row_numbers) other)) (sym (part_is a other))

    pub meeting_next : (k : d < length notes) (ys : List ℕ) → length ys ≡ length (part a room)
        → ys ≡ row_met (meeting_now k).slot (part a room) (part a other)
        → Meeting run at notes ss room₀ other (renewed a room ys) (d + 1) (a + row_numbers)
    meeting_next k ys o e =
        let y = meeting_now k in
        let inside = y.room in
        let c = o ∙ part_size a room inside in
        let same_size = renewed_length a room ys inside c in
        let later : List ℕ → List ℕ = λ xs. met y.slots xs (drop (a + row_numbers) other) in
        record {
          rest = y.slots;
          values = y.values;
          ahead = subst (λ (m : ℕ). Ahead run at notes m (d + 1) (a + row_numbers) y.slots y.values)
              (sym same_size) y.ahead;
          fit = ap (fits y.slots) (renewed_drop a room ys inside c) ∙ fits_later a room y.is w.fit;
          other_fit = fits_later a other y.is w.other_fit;
          size = same_size ∙ w.size;
          other_size = w.other_size ∙ sym same_size;
          same = rows_on a room ys inside c later
              (met_is k ∙ ap (λ (l : List ℕ). l ++ later (drop row_numbers (drop a room))) (sym e)) w.same;
        }

    pub meeting_end : length notes ≤ d → room ≡ met ss room₀ other
    unfolding met
    meeting_end k =
        sym (take-append-drop a room)
        ∙ ap (λ (l : List Slot). take a room ++ met l (drop a room) (drop a other)) (sym (ahead_end w.ahead k))
        ∙ w.same
