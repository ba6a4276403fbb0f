-- Records: a record from its members, in whatever order they stand.
--   records              its words, in the order in which a request is held
--   Slots, request_from   its members by name, and the request that they are
--   Sorted run m x       where the values of the members x lie
use Rattle.std.specs.Prelude.{◌≡◌, List, [], ◌∷◌, ℕ, zero, suc, ◌≤◌, length}
use Rattle.syntax.specs.Policy.{Request}
use Rattle.syntax.specs.Forms.{Reading, read}
use Rattle.syntax.specs.Words.{action_names_word, resource_arns_word, context_entries_word}
use Rattle.syntax.specs.Members.{then, Slot, required, optional}
use Rattle.syntax.specs.RecordLayout.{only_one, action_name_of, resource_arn_of, contexts_of}
use Rattle.held.specs.Held.{held_text, held_list, held_context}
use Rattle.objects.specs.Spans.{from_of, to_of, behind}
use Rattle.objects.specs.Gathering.{How, laid, Kinded, SlotFound}
use Rattle.objects.specs.Filling.{numbers}

abbrev pub record_how : ℕ → How
record_how zero = laid (numbers held_text (only_one action_name_of))
record_how (suc zero) = laid (numbers held_text (only_one action_name_of))
record_how (suc (suc zero)) = laid (numbers held_text (only_one resource_arn_of))
record_how (suc (suc (suc k))) = laid (numbers (held_list held_context) contexts_of)

abbrev pub records : Kinded
records =
    record { words = action_names_word ∷ resource_arns_word ∷ context_entries_word ∷ []; how = record_how; levels = 3 }

pub record Slots : Type 0 where
  pub action : Slot
  pub resource : Slot
  pub contexts : Slot

unfoldable pub request_from : Slots → Reading Request
request_from x =
    then (required (only_one action_name_of) x.action) (λ a.
    then (optional (42 ∷ []) (only_one resource_arn_of) x.resource) (λ r.
    then (optional [] contexts_of x.contexts) (λ cs.
    read (record { action = a; resource = r; context = cs }))))

pub record Sorted (run m : List ℕ) (x : Slots) : Type 0 where
  pub size : length m ≡ 12
  pub high : behind m ≤ length run
  pub action : SlotFound (record_how 1) run (behind m) x.action (from_of m 1) (to_of m 1)
  pub resource : SlotFound (record_how 2) run (behind m) x.resource (from_of m 2) (to_of m 2)
  pub contexts : SlotFound (record_how 3) run (behind m) x.contexts (from_of m 3) (to_of m 3)

pub record Sorting (run m : List ℕ) : Type 0 where
  pub slots : Slots
  pub sorted : Sorted run m slots
