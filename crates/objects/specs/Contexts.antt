-- Contexts: a context entry from its members, in whatever order they stand.
--   contexts              its words, those whose values lie in the run first and in the order in which an entry is held
--   Slots, context_from    its members by name, and the entry that they are
--   Sorted run m at x     where the values of the members x lie
--   Texting, Values ..    a text is made a value of its type
use Rattle.std.specs.Prelude.{◌≡◌, List, [], ◌∷◌, ℕ, zero, suc, ◌+◌, ◌≤◌, length, eqb, Option, Some, None}
use Rattle.chars.specs.Base.{pick}
use Rattle.syntax.specs.Limits.{run_numbers}
use Rattle.syntax.specs.Policy.{Context}
use Rattle.syntax.specs.Forms.{Reading, read}
use Rattle.syntax.specs.Words.{context_key_name_word, context_key_type_word, context_key_values_word}
use Rattle.syntax.specs.Members.{then, Slot, required, characters_of}
use Rattle.syntax.specs.RecordLayout.{only_one, key_name_of, typed_of}
use Rattle.held.specs.Held.{held_text, held_value}
use Rattle.parts.specs.Holding.{Kept}
use Rattle.parts.specs.Requests.{typed_as}
use Rattle.parts.specs.declared.words.ValueType.{ValueType}
use Rattle.parts.specs.declared.words.ValueType.TheVariants as V
use Rattle.objects.specs.Telling.{type_told}
use Rattle.objects.specs.Spans.{from_of, to_of, behind}
use Rattle.objects.specs.Gathering.{How, laid, told, Kinded, SlotFound}
use Rattle.objects.specs.Filling.{numbers, Ready}

abbrev pub context_how : ℕ → How
context_how zero = told type_told
context_how (suc zero) = laid (numbers held_text key_name_of)
context_how (suc (suc zero)) = laid (numbers held_text (only_one characters_of))
context_how (suc (suc (suc k))) = told type_told

abbrev pub contexts : Kinded
contexts =
    record {
      words = context_key_name_word ∷ context_key_values_word ∷ context_key_type_word ∷ [];
      how = context_how;
      levels = 1;
    }

pub record Slots : Type 0 where
  pub key : Slot
  pub type : Slot
  pub value : Slot

unfoldable pub context_from : Slots → Reading Context
context_from x =
    then (required key_name_of x.key) (λ k.
    then (required (λ t. read t) x.type) (λ t.
    then (required (only_one characters_of) x.value) (λ cs.
    then (typed_of t cs) (λ v. read (record { key = k; value = v })))))

pub record Sorted (run m : List ℕ) (at : ℕ) (x : Slots) : Type 0 where
  pub size : length m ≡ 12
  pub low : at + 1 ≤ behind m
  pub high : behind m ≤ length run
  pub bounded : length run ≤ run_numbers
  pub key : SlotFound (context_how 1) run (behind m) x.key (from_of m 1) (to_of m 1)
  pub value : SlotFound (context_how 2) run (behind m) x.value (from_of m 2) (to_of m 2)
  pub type : SlotFound (context_how 3) run (behind m) x.type (from_of m 3) (to_of m 3)

pub record Sorting (run m : List ℕ) (at : ℕ) : Type 0 where
  pub slots : Slots
  pub sorted : Sorted run m at slots

-- ---- a text made a value of its type

-- the part of turn 2 is a text
pub record Texting (run m : List ℕ) : Type 0 where
  pub size : length m ≡ 12
  pub high : behind m ≤ length run
  pub bounded : length run ≤ run_numbers
  pub said : Reading (List ℕ)
  pub text : Ready held_text said run m 2

-- the type that a number stands for
abbrev pub type_from : ℕ → ValueType
type_from k = pick (eqb k 1) V.Text V.Number

-- it is the value of type k that the text says; the part of turn 1 is where it was
pub record Valued (run run' m m' : List ℕ) (k : ValueType) (x : Reading (List ℕ)) : Type 0 where
  pub kept : Kept run run' (behind m)
  pub more : behind m ≤ behind m'
  pub high : behind m' ≤ length run'
  pub from : from_of m' 1 ≡ from_of m 1
  pub to : to_of m' 1 ≡ to_of m 1
  pub value : Ready held_value (then x (typed_as k)) run' m' 2

-- or it has not the form, or there is no room
abbrev pub Values : List ℕ → List ℕ → List ℕ → ValueType → Option (List ℕ) → Type 0
Values run run' m k (Some m') =
    (length m' ≡ 12) × ((x : Reading (List ℕ)) → Ready held_text x run m 2 → Valued run run' m m' k x)
Values run run' m k None = length run' ≡ length run
