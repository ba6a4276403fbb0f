-- No operation comes to two outcomes, what was lent included. Fresh's contract is an equation, and says so by itself.
--   feeds_unique, joins_unique, finishes_unique    no two outcomes
use mathlib.Core.Path.{◌≡◌, refl, sym, ap, ◌∙◌}
use mathlib.Core.Bool.{Bool, true, false}
use mathlib.Core.List.{List}
use Prim.Native.Nat.{ℕ}
use lib.ListN.{length, replicate}
use borrow.Author.Tests.{eq-eqb, ne_eqb}
use Rattle.chars.specs.Base.{pick}
use Rattle.syntax.specs.Policy.{Policy, Request}
use Rattle.policy.specs.Reading.{Outcome, refused, known, Rules, policy_rules, record_rules, Says}
use Rattle.policy.specs.declared.refusals.Refusal.{Refusal}
use Rattle.policy.specs.declared.refusals.Refusal.TheVariants.{RoomLength, RoomContent, NoAllow}
use Rattle.policy.proofs.Laws.Reading.{outcome, says_is}
use Rattle.decision.specs.Decision.{decide}
use Rattle.decision.specs.declared.deciding.Decision.{Decision}
use Rattle.writing.specs.WrittenForm.{written_policy}
use Rattle.restate.specs.Operations.{handed}
use Rattle.rooms.specs.Rooms.{slots, charges, fed, met}
use Rattle.refined.specs.Finishing.{refined_policy, has_allow}
use Rattle.refine.specs.Operations.{room_numbers, is_room, holds_for, Done, done, freshened}
use Rattle.refine.specs.Operations as O

-- ---- Fresh

module _ (room : List ℕ) where
  pub fresh_refused : (length room ≡ room_numbers → ⊥) → (refused RoomLength, room) ≡ freshened room
  unfolding freshened
  fresh_refused s = rw (ne_eqb (length room) room_numbers s) refl

  pub fresh_done :
      {after : List ℕ} → length room ≡ room_numbers → after ≡ replicate (length room) 0
      → (known done, after) ≡ freshened room
  unfolding freshened
  fresh_done {after} e f =
      let g : after ≡ replicate room_numbers 0 = f ∙ ap (λ (n : ℕ). replicate {A = ℕ} n 0) e in
      rw (eq-eqb (length room) room_numbers e) (ap (λ (l : List ℕ). (known done, l)) g)

-- ---- refusals in their order

-- what an operation comes to, what was lent included
abbrev Coming : Type 0 → Type 0
Coming A = Outcome A × List ℕ

module _ {A : Type 0} (lent : List ℕ) where
  -- on, if a test holds; if a text says something
  abbrev ask : Bool → Refusal → Coming A → Coming A
  ask b f next = pick b next (refused f, lent)

  abbrev said : {B : Type 0} → Outcome B → (B → Coming A) → Coming A
  said (refused f) next = (refused f, lent)
  said (known b) next = next b

  ask_no : {b : Bool} (f : Refusal) (next : Coming A) → b ≡ false → (refused f, lent) ≡ ask b f next
  ask_no f next e = rw e refl

  ask_yes : {b : Bool} {x : Coming A} (f : Refusal) (next : Coming A) → b ≡ true → x ≡ next → x ≡ ask b f next
  ask_yes f next e g = rw e g

  module _ {B : Type 0} (k : Rules B) (s : List ℕ) (next : B → Coming A) where
    said_no : {f : Refusal} → Says k s (refused f) → (refused f, lent) ≡ said (outcome k s) next
    said_no a = ap (λ (y : Outcome B). said y next) (says_is k s a)

    said_yes : {b : B} {x : Coming A} → Says k s (known b) → x ≡ next b → x ≡ said (outcome k s) next
    said_yes a g = g ∙ ap (λ (y : Outcome B). said y next) (says_is k s a)

-- ---- Feed

module _ (policy asked room : List ℕ) where
  abbrev fed_by : Policy → Request → Coming Decision
  fed_by p r = (known (decide p r), fed (slots p) (charges p r) room)

  abbrev asked_by : Policy → Coming Decision
  asked_by p = said room (outcome record_rules asked) (fed_by p)

  abbrev held_by : Policy → Coming Decision
  held_by p = ask room (holds_for p room) RoomContent (asked_by p)

  abbrev read_by : Coming Decision
  read_by = said room (outcome policy_rules policy) held_by

  abbrev feeding : Coming Decision
  feeding = ask room (is_room room) RoomLength read_by

  feeds_is : {x : Outcome Decision} {after : List ℕ} → O.Feeds policy asked room x after → (x, after) ≡ feeding
  feeds_is (O.no_room e) = ask_no room RoomLength read_by e
  feeds_is (O.no_policy e a) = ask_yes room RoomLength read_by e (said_no room policy_rules policy held_by a)
  feeds_is (O.no_content {p} e a n) =
      ask_yes room RoomLength read_by e
      (said_yes room policy_rules policy held_by a (ask_no room RoomContent (asked_by p) n))
  feeds_is (O.no_record {p} e a n b) =
      ask_yes room RoomLength read_by e
      (said_yes room policy_rules policy held_by a
      (ask_yes room RoomContent (asked_by p) n (said_no room record_rules asked (fed_by p) b)))
  feeds_is (O.feeds {p} e a n b) =
      ask_yes room RoomLength read_by e
      (said_yes room policy_rules policy held_by a
      (ask_yes room RoomContent (asked_by p) n (said_yes room record_rules asked (fed_by p) b refl)))

  pub feeds_unique :
      (x y : Outcome Decision) (a b : List ℕ) → O.Feeds policy asked room x a → O.Feeds policy asked room y b
      → ◌≡◌ {A = Coming Decision} (x, a) (y, b)
  feeds_unique x y a b p q = feeds_is p ∙ sym (feeds_is q)

-- ---- Join

module _ (policy room other : List ℕ) where
  abbrev met_by : Policy → Coming Done
  met_by p = (known done, met (slots p) room other)

  abbrev other_held : Policy → Coming Done
  other_held p = ask room (holds_for p other) RoomContent (met_by p)

  abbrev both_held : Policy → Coming Done
  both_held p = ask room (holds_for p room) RoomContent (other_held p)

  abbrev join_read : Coming Done
  join_read = said room (outcome policy_rules policy) both_held

  abbrev other_room : Coming Done
  other_room = ask room (is_room other) RoomLength join_read

  abbrev joining : Coming Done
  joining = ask room (is_room room) RoomLength other_room

  joins_is : {x : Outcome Done} {after : List ℕ} → O.Joins policy room other x after → (x, after) ≡ joining
  joins_is (O.no_room e) = ask_no room RoomLength other_room e
  joins_is (O.no_other e g) = ask_yes room RoomLength other_room e (ask_no room RoomLength join_read g)
  joins_is (O.no_policy e g a) =
      ask_yes room RoomLength other_room e
      (ask_yes room RoomLength join_read g (said_no room policy_rules policy both_held a))
  joins_is (O.no_content {p} e g a n) =
      ask_yes room RoomLength other_room e
      (ask_yes room RoomLength join_read g
      (said_yes room policy_rules policy both_held a (ask_no room RoomContent (other_held p) n)))
  joins_is (O.no_other_content {p} e g a n m) =
      ask_yes room RoomLength other_room e
      (ask_yes room RoomLength join_read g
      (said_yes room policy_rules policy both_held a
      (ask_yes room RoomContent (other_held p) n (ask_no room RoomContent (met_by p) m))))
  joins_is (O.joins {p} e g a n m) =
      ask_yes room RoomLength other_room e
      (ask_yes room RoomLength join_read g
      (said_yes room policy_rules policy both_held a
      (ask_yes room RoomContent (other_held p) n (ask_yes room RoomContent (met_by p) m refl))))

  pub joins_unique :
      (x y : Outcome Done) (a b : List ℕ) → O.Joins policy room other x a → O.Joins policy room other y b
      → ◌≡◌ {A = Coming Done} (x, a) (y, b)
  joins_unique x y a b p q = joins_is p ∙ sym (joins_is q)

-- ---- Finish

module _ (policy room out : List ℕ) where
  abbrev written_by : Policy → Coming ℕ
  written_by p = handed (written_policy (refined_policy p room)) out

  abbrev left_by : Policy → Coming ℕ
  left_by p = ask out (has_allow (refined_policy p room)) NoAllow (written_by p)

  abbrev finish_held : Policy → Coming ℕ
  finish_held p = ask out (holds_for p room) RoomContent (left_by p)

  abbrev finish_read : Coming ℕ
  finish_read = said out (outcome policy_rules policy) finish_held

  abbrev finishing : Coming ℕ
  finishing = ask out (is_room room) RoomLength finish_read

  finishes_is : {x : Outcome ℕ} {after : List ℕ} → O.Finishes policy room out x after → (x, after) ≡ finishing
  finishes_is (O.no_room e) = ask_no out RoomLength finish_read e
  finishes_is (O.no_policy e a) = ask_yes out RoomLength finish_read e (said_no out policy_rules policy finish_held a)
  finishes_is (O.no_content {p} e a n) =
      ask_yes out RoomLength finish_read e
      (said_yes out policy_rules policy finish_held a (ask_no out RoomContent (left_by p) n))
  finishes_is (O.no_allow {p} e a n m) =
      ask_yes out RoomLength finish_read e
      (said_yes out policy_rules policy finish_held a
      (ask_yes out RoomContent (left_by p) n (ask_no out NoAllow (written_by p) m)))
  finishes_is (O.finishes {p} e a n m g) =
      ask_yes out RoomLength finish_read e
      (said_yes out policy_rules policy finish_held a
      (ask_yes out RoomContent (left_by p) n (ask_yes out NoAllow (written_by p) m g)))

  pub finishes_unique :
      (x y : Outcome ℕ) (a b : List ℕ) → O.Finishes policy room out x a → O.Finishes policy room out y b
      → ◌≡◌ {A = Coming ℕ} (x, a) (y, b)
  finishes_unique x y a b p q = finishes_is p ∙ sym (finishes_is q)
