-- Gathering: the members of an object held in a run as they stand, in any order; where each lies is noted by the turn
-- of its name among the words of a layout.
--   Kinded              the words of an object, and how each word's value is held: as a part of the run, or told by a
--                       number
--   Found h run p t ..  a value t held so, before place p of the run
--   Names ws s i r      a member whose name stands at i is word r's
--   Parts l s ..        a value held as that of turn k
--   Proper l            no two words of a layout are alike
--   Gathered l s ..     all members of an object, from the first name's place on
use Rattle.std.specs.Prelude.{◌≡◌, true, List, ℕ, ◌≤◌, ◌<◌, length, get_or, Option, Some, None}
use Rattle.text.specs.Json.{Json, Members, depth, depthm, a_value, members, Reads}
use Rattle.syntax.specs.Forms.{Reading, read}
use Rattle.syntax.specs.Members.{Slot, none, many, one, slot, known}
use Rattle.parts.specs.Slots.{word_at, which_of, Turn}
use Rattle.parts.proofs.Laws.Slots.{distinct}
use Rattle.parts.specs.Holding.{Extends, Kept}
use Rattle.parts.specs.declared.holding.Ended.{Ended}
use Rattle.straight.specs.Marks.{Named}
use Rattle.objects.specs.Spans.{from_of, to_of, behind}
use Rattle.objects.specs.declared.members.Member.{Member}
use Rattle.objects.specs.declared.members.Word.{Word}
use Rattle.objects.specs.declared.members.Part.{Part}

-- numbers that a value comes to, or one number that tells it
pub data How : Type 0 where
  laid : (Json → Reading (List ℕ)) → How
  told : (Json → Option ℕ) → How

pub record Kinded : Type 0 where
  pub words : List (List ℕ)
  pub how : ℕ → How
  pub levels : ℕ

-- ---- one value

pub record Laying (f : Json → Reading (List ℕ)) (run : List ℕ) (p : ℕ) (t : Json) (from to : ℕ) : Type 0 where
  pub numbers : List ℕ
  pub said : f t ≡ read numbers
  pub some : 0 < length numbers
  pub lies : Extends run run from numbers to
  pub inside : to ≤ p

pub record Telling (g : Json → Option ℕ) (t : Json) (from to : ℕ) : Type 0 where
  pub is : Some from ≡ g t
  pub here : to ≡ 1

abbrev pub Found : How → List ℕ → ℕ → Json → ℕ → ℕ → Type 0
Found (laid f) run p t from to = Laying f run p t from to
Found (told g) run p t from to = Telling g t from to

-- a member that may be absent: nothing ends at 0
abbrev pub SlotFound : How → List ℕ → ℕ → Slot → ℕ → ℕ → Type 0
SlotFound h run p none from to = to ≡ 0
SlotFound h run p many from to = ⊥
SlotFound h run p (one t) from to = Found h run p t from to

-- ---- answers

abbrev pub is_named : ℕ → Option ℕ → Option Member
is_named k (Some v) = Some (record { turn = k; value = v })
is_named k None = None

abbrev pub Names : List (List ℕ) → List ℕ → ℕ → Option Member → Type 0
Names ws s i (Some m) = (Turn ws m.turn) × (Named s (word_at ws m.turn) i m.value)
Names ws s i None = Unit {0}

abbrev pub laid_as : Ended → ℕ → Part
laid_as h at = record { from = at; to = h.past; past = h.past; end = h.end }

abbrev pub told_as : Word → ℕ → Part
told_as w at = record { from = w.number; to = 1; past = at; end = w.end }

pub record PartHeld (l : Kinded) (s run run' : List ℕ) (v at k from to past end : ℕ) : Type 0 where
  pub tree : Json
  pub reads : Reads s (a_value tree) v end
  pub shallow : depth tree ≤ l.levels
  pub kept : Kept run run' at
  pub order : at ≤ past
  pub inside : past ≤ length run'
  pub found : Found (l.how k) run' past tree from to

abbrev pub Parts : Kinded → List ℕ → List ℕ → List ℕ → ℕ → ℕ → ℕ → Option Part → Type 0
Parts l s run run' v at k (Some r) = PartHeld l s run run' v at k r.from r.to r.past r.end
Parts l s run run' v at k None = length run' ≡ length run

-- ---- layouts

-- few words, no two of them alike
pub record Proper (l : Kinded) : Type 0 where
  pub few : length l.words ≤ 5
  pub apart : distinct l.words ≡ true
  pub itself : (k : ℕ) → Turn l.words k → which_of l.words (word_at l.words k) ≡ k

-- ---- all members

pub record Gathered (l : Kinded) (s run run' : List ℕ) (i at : ℕ) (m : List ℕ) : Type 0 where
  pub spans : length m ≡ 12
  pub all : Members
  pub reads : Reads s (members all) i (get_or m 0 0)
  pub knows : known l.words all ≡ true
  pub shallow : depthm all ≤ l.levels
  pub kept : Kept run run' at
  pub low : at ≤ behind m
  pub high : behind m ≤ length run'
  pub each : (k : ℕ) → Turn l.words k
      → SlotFound (l.how k) run' (behind m) (slot (word_at l.words k) all) (from_of m k) (to_of m k)
