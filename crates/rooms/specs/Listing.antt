-- Listing: the entries of a held policy in reading order as the walks over a room go through them, a note of each, and
-- with it the value that a request charges to it.
--   handling s        what its row can hold: nothing, of a Deny entry; itself alone; by its wildcards; numbers
--   Effecting n       n is an effect's number
--   SlotAt run x s    the note x tells of the slot s
--   Valued at v f     v is the place where the value found lies, none where f is nothing
--   Lists .. ss fs    behind the first o notes came those of the slots ss, with the values fs
--   ListsTo .. e      and what was listed ends before the place e of the held run
--   Judges .. p q     the decision, and the notes of what it charges where it allows
use Rattle.std.specs.Prelude.{◌≡◌, Bool, List, [], ◌∷◌, ◌++◌, map, ℕ, ◌+◌, ◌≤◌, length, take, Option, Some, None}
use Rattle.syntax.specs.Policy.{Effect, Allow, Deny, Operator, StringEquals, StringLike, NumericLessThanEquals}
use Rattle.syntax.specs.Policy.{Value, text, number, Statement, Policy, Context, Request}
use Rattle.syntax.specs.Forms.{both}
use Rattle.held.specs.Held.{held_value, held_list, held_context, effect_number}
use Rattle.held.specs.Lying.{Lies}
use Rattle.decision.specs.Decision.{Found, nothing, found, same_effect, decide}
use Rattle.decision.specs.declared.deciding.Decision.TheVariants.{Allowed}
use Rattle.candidates.specs.Entries.{comparison, in_action, in_resource}
use Rattle.candidates.specs.Places.{place_is}
use Rattle.rooms.specs.Rooms.{Slot, slots, hits, row_hits, allowed_charges}
use Rattle.rooms.specs.declared.listing.Handling.{Handling}
use Rattle.rooms.specs.declared.listing.Handling.TheVariants as H
use Rattle.rooms.specs.declared.listing.Note.{Note}
use Rattle.rooms.specs.declared.listing.Noted.{Noted}
use Rattle.rooms.specs.declared.listing.Judged.{Judged}

-- ---- slots

pub record Effecting (n : ℕ) : Type 0 where
  pub effect : Effect
  pub is : n ≡ effect_number effect

abbrev pub handling_by : Effect → Operator → Value → Handling
handling_by Deny o x = H.Nothing
handling_by Allow StringEquals x = H.Itself
handling_by Allow StringLike (text ys) = H.Wild
handling_by Allow StringLike (number n) = H.Itself
handling_by Allow NumericLessThanEquals (text ys) = H.Itself
handling_by Allow NumericLessThanEquals (number n) = H.Number

abbrev pub handling : Slot → Handling
handling s = handling_by s.effect (comparison s.place) s.entry

pub record SlotAt (run : List ℕ) (x : Note) (s : Slot) : Type 0 where
  pub handles : x.handling ≡ handling s
  pub placed : place_is x.place ≡ s.place
  pub lies : Lies run x.entry (held_value s.entry)

-- ---- values

pub data Valued (at : List ℕ) : Option ℕ → Found → Type 0 where
  no_value : Valued at None nothing
  a_value : {v : ℕ} {y : Value} → Lies at v (held_value y) → Valued at (Some v) (found y)

pub record Carried (at : List ℕ) (v : Option ℕ) : Type 0 where
  pub value : Found
  pub valued : Valued at v value

-- the context entries that rows are asked for: none, or those of the list that lies there
pub data Asked (at : List ℕ) : Option ℕ → List Context → Type 0 where
  no_context : Asked at None []
  contexts : {v : ℕ} {cs : List Context} → Lies at v (held_list held_context cs) → Asked at (Some v) cs

pub record Asking (at : List ℕ) (v : Option ℕ) : Type 0 where
  pub context : List Context
  pub asked : Asked at v context

-- ---- notes

pub record Notes (run at : List ℕ) (x : Note) (s : Slot) (f : Found) : Type 0 where
  pub slot : SlotAt run x s
  pub value : Valued at x.value f

pub data Told (run at : List ℕ) : List Note → List Slot → List Found → Type 0 where
  all_told : Told run at [] [] []
  one_told : {x : Note} {s : Slot} {f : Found} {xs : List Note} {ss : List Slot} {fs : List Found}
      → Notes run at x s f → Told run at xs ss fs → Told run at (x ∷ xs) (s ∷ ss) (f ∷ fs)

pub record Lists (run at : List ℕ) (ss : List Slot) (fs : List Found) (dir : List Note) (o r : ℕ) (after : List Note)
    : Type 0 where
  pub notes : List Note
  pub told : Told run at notes ss fs
  pub size : length after ≡ length dir
  pub next : r ≡ o + length ss
  pub is : take r after ≡ take o dir ++ notes

-- what was listed ends before e
pub record ListsTo (run at : List ℕ) (ss : List Slot) (fs : List Found) (dir : List Note) (o : ℕ) (after : List Note) (e : ℕ)
    (g : Noted) : Type 0 where
  pub lists : Lists run at ss fs dir o g.next after
  pub past : g.past ≡ e

-- a thing lies there, and its notes have room behind the first o notes
pub record Listable {A : Type 0} (h : A → List ℕ) (many : A → ℕ) (run : List ℕ) (p : ℕ) (dir : List Note) (o : ℕ)
    : Type 0 where
  pub thing : A
  pub lies : Lies run p (h thing)
  pub room : o + many thing ≤ length dir

-- ---- what is charged

-- a statement's entries, asked for an action, a resource and context entries
unfoldable pub statement_found : Statement → Found → Found → List Context → List Found
statement_found s a b cs =
    hits in_action a (map text s.actions) ++ (hits in_resource b (map text s.resources) ++ row_hits s.rows cs)

-- a Deny statement that holds
abbrev pub denying : Statement → Bool → Bool
denying s holds = both holds (same_effect Deny s.effect)

-- the decision, and what is listed where it allows
pub record Judges (run at : List ℕ) (p : Policy) (q : Request) (dir after : List Note) (r : Judged) : Type 0 where
  pub decision : r.decision ≡ decide p q
  pub lists : (n : ℕ) → r.decision ≡ Allowed n → Lists run at (slots p) (allowed_charges p q) dir 0 r.notes after
  pub size : length after ≡ length dir
