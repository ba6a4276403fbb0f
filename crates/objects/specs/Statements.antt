-- Statements: a statement from its members, in whatever order they stand.
--   statements            its words: first those whose values lie in the run, in the order in which a statement is held
--   Slots, statement_from  its members by name, and the statement that they are
--   Sorted run m at x     where the values of the members x lie
use Rattle.std.specs.Prelude.{◌≡◌, List, [], ◌∷◌, ℕ, zero, suc, ◌+◌, ◌≤◌, length, set}
use Rattle.syntax.specs.Policy.{Statement}
use Rattle.syntax.specs.Forms.{Reading, read}
use Rattle.syntax.specs.Words.{sid_word, effect_word, action_word, resource_word, condition_word}
use Rattle.syntax.specs.Members.{then, Slot, required, optional, one_or_more}
use Rattle.syntax.specs.PolicyLayout.{sid_of, effect_of, action_of, resource_of, condition_of}
use Rattle.held.specs.Held.{held_text, held_list, held_row}
use Rattle.objects.specs.Telling.{effect_named}
use Rattle.objects.specs.Spans.{from_of, to_of, behind}
use Rattle.objects.specs.Gathering.{How, laid, told, Kinded, SlotFound}
use Rattle.objects.specs.Filling.{numbers, Ready}

abbrev pub statement_how : ℕ → How
statement_how zero = told effect_named
statement_how (suc zero) = laid (numbers held_text sid_of)
statement_how (suc (suc zero)) = laid (numbers (held_list held_text) (one_or_more action_of))
statement_how (suc (suc (suc zero))) = laid (numbers (held_list held_text) (one_or_more resource_of))
statement_how (suc (suc (suc (suc zero)))) = laid (numbers (held_list held_row) condition_of)
statement_how (suc (suc (suc (suc (suc k))))) = told effect_named

abbrev pub statements : Kinded
statements =
    record {
      words = sid_word ∷ action_word ∷ resource_word ∷ condition_word ∷ effect_word ∷ [];
      how = statement_how;
      levels = 3;
    }

pub record Slots : Type 0 where
  pub sid : Slot
  pub effect : Slot
  pub action : Slot
  pub resource : Slot
  pub condition : Slot

unfoldable pub statement_from : Slots → Reading Statement
statement_from x =
    then (optional [] sid_of x.sid) (λ i.
    then (required effect_of x.effect) (λ e.
    then (required (one_or_more action_of) x.action) (λ xs.
    then (required (one_or_more resource_of) x.resource) (λ rs.
    then (optional [] condition_of x.condition) (λ cs.
    read (record { sid = i; effect = e; actions = xs; resources = rs; rows = cs }))))))

-- where the parts begin: behind the effect's place, or behind a Sid of no characters, which was put there
pub data Begun (run run' : List ℕ) (at base : ℕ) : Type 0 where
  labelled : base ≡ at + 1 → run' ≡ run → Begun run run' at base
  bare : base ≡ at + 2 → run' ≡ set run (at + 1) 0 → Begun run run' at base

pub record Sorted (run m : List ℕ) (at : ℕ) (x : Slots) : Type 0 where
  pub size : length m ≡ 12
  pub low : at + 1 ≤ behind m
  pub high : behind m ≤ length run
  pub sid : (to_of m 1 ≡ 0 → ⊥) → Ready held_text (optional [] sid_of x.sid) run m 1
  pub action : SlotFound (statement_how 2) run (behind m) x.action (from_of m 2) (to_of m 2)
  pub resource : SlotFound (statement_how 3) run (behind m) x.resource (from_of m 3) (to_of m 3)
  pub condition : SlotFound (statement_how 4) run (behind m) x.condition (from_of m 4) (to_of m 4)
  pub effect : SlotFound (statement_how 5) run (behind m) x.effect (from_of m 5) (to_of m 5)

pub record Sorting (run m : List ℕ) (at : ℕ) : Type 0 where
  pub slots : Slots
  pub sorted : Sorted run m at slots

-- the place of a Sid of no characters taken for that of the Sid
pub data WithSid (m : List ℕ) (at base : ℕ) (m' : List ℕ) : Type 0 where
  there : (to_of m 1 ≡ 0 → ⊥) → m' ≡ m → WithSid m at base m'
  lacking : to_of m 1 ≡ 0 → base ≡ at + 2 → m' ≡ set (set m 2 (at + 1)) 3 (at + 2) → WithSid m at base m'
