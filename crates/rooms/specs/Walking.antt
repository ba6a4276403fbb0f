-- Walking: the rows of a room, each with the slot that the list of entries has for it.
--   Chargeable s y              the slot s is one that the value y can be charged to
--   RightAt s f, Right ss fs    a value found is chargeable to its slot;  each of the values is
-- The other records say what a call needs: that there are such slots.
use Rattle.std.specs.Prelude.{◌≡◌, true, List, [], ◌∷◌, ℕ, ◌*◌, ◌≤◌, length}
use Rattle.syntax.specs.Limits.{entry_characters, run_numbers}
use Rattle.syntax.specs.Policy.{Allow, Value, text, number}
use Rattle.held.specs.Held.{held_value}
use Rattle.held.specs.Lying.{Lies}
use Rattle.decision.specs.Decision.{Found, nothing, found}
use Rattle.candidates.specs.Entries.{meets_at}
use Rattle.candidates.specs.Rows.{row_numbers}
use Rattle.rooms.specs.Rooms.{Slot, row_fits, fits}
use Rattle.rooms.specs.Listing.{SlotAt, Valued, Told}
use Rattle.rooms.specs.declared.listing.Note.{Note}

-- ---- one row

pub record Slotted (run : List ℕ) (x : Note) : Type 0 where
  pub slot : Slot
  pub stands : SlotAt run x slot

abbrev pub Short : Value → Type 0
Short (text cs) = length cs ≤ entry_characters
Short (number n) = Unit {0}

pub record Chargeable (s : Slot) (y : Value) : Type 0 where
  pub allows : s.effect ≡ Allow
  pub meets : meets_at s.place s.entry y ≡ true
  pub short : Short y

pub record RowCharged (run : List ℕ) (x : Note) (at : List ℕ) (v : ℕ) (xs : List ℕ) : Type 0 where
  pub slot : Slot
  pub stands : SlotAt run x slot
  pub value : Value
  pub lies : Lies at v (held_value value)
  pub right : Chargeable slot value
  pub fits : row_fits slot xs ≡ true
  pub size : length xs ≡ row_numbers

-- a slot that nothing is charged to is right too
abbrev pub RightAt : Slot → Found → Type 0
RightAt s nothing = Unit {0}
RightAt s (found y) = Chargeable s y

pub record RowFed (run : List ℕ) (x : Note) (at : List ℕ) (xs : List ℕ) : Type 0 where
  pub slot : Slot
  pub stands : SlotAt run x slot
  pub value : Found
  pub valued : Valued at x.value value
  pub right : RightAt slot value
  pub fits : row_fits slot xs ≡ true
  pub size : length xs ≡ row_numbers

pub record RowsMeet (run : List ℕ) (x : Note) (xs ys : List ℕ) : Type 0 where
  pub slot : Slot
  pub stands : SlotAt run x slot
  pub fits : row_fits slot xs ≡ true
  pub other : row_fits slot ys ≡ true
  pub size : length xs ≡ row_numbers
  pub same_size : length ys ≡ row_numbers

-- ---- a room

pub data Right : List Slot → List Found → Type 0 where
  all_right : Right [] []
  one_right : {s : Slot} {f : Found} {ss : List Slot} {fs : List Found} → RightAt s f → Right ss fs
      → Right (s ∷ ss) (f ∷ fs)

pub record Roomy (run at : List ℕ) (notes : List Note) (room : List ℕ) : Type 0 where
  pub slots : List Slot
  pub values : List Found
  pub told : Told run at notes slots values
  pub enough : row_numbers * length slots ≤ length room
  pub bounded : length room ≤ run_numbers

pub record Fed (run at : List ℕ) (notes : List Note) (room : List ℕ) : Type 0 where
  pub roomy : Roomy run at notes room
  pub right : Right roomy.slots roomy.values
  pub fit : fits roomy.slots room ≡ true

pub record Met (run at : List ℕ) (notes : List Note) (room other : List ℕ) : Type 0 where
  pub roomy : Roomy run at notes room
  pub fit : fits roomy.slots room ≡ true
  pub same : fits roomy.slots other ≡ true
  pub size : length other ≡ length room
