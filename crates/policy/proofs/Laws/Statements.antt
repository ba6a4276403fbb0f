-- A statement from the members of its object.
--   slots_left          there is none where a member is unknown or repeated
--   effect_missing ..   nor where one is missing, or the effect is wrong
--   statement_laid      else it is the effect and the other parts
use Rattle.std.specs.Prelude.{Option}
use mathlib.Core.Path.{◌≡◌, refl, sym, ap, ◌∙◌, subst}
use mathlib.Core.Bool.{true, false}
use mathlib.Core.Logic.{⊎_elim}
use mathlib.Core.List.{List, [], ◌∷◌}
use Prim.Native.Nat.{ℕ, zero, suc, ◌+◌, ◌≤◌, ◌<◌}
use native.Mathlib.Omega.{arith}
use lib.ListN.{length, get_or, set}
use Rattle.text.specs.Json.{Json, null, bool, number, string, list, object, Members}
use Rattle.text.specs.Contents.{kind_of, Standing}
use Rattle.syntax.specs.Policy.{Effect, Statement}
use Rattle.syntax.specs.Forms.{Reading, wrong, read}
use Rattle.syntax.specs.Words.{sid_word, effect_word, action_word, resource_word, condition_word}
use Rattle.syntax.specs.Members.{then, many, slot, known, required, optional, one_or_more}
use Rattle.parts.specs.Slots.{words_of, word_at, Placed, Turn, Repeated, Slotted}
use Rattle.syntax.specs.PolicyLayout.{action_of, resource_of, condition_of, effect_of, sid_of, statement_in}
use Rattle.syntax.specs.PolicyLayout.{statement_of}
use Rattle.held.specs.Held.{held_statement, effect_number}
use Rattle.parts.specs.Room.{costm}
use Rattle.parts.specs.Holding.{is_object, Extends, Laid, Left, HoldsTo}
use Rattle.policy.specs.Statements.{parts_of, held_parts, HoldableParts}
use Rattle.policy.specs.Statements as S
use Rattle.parts.specs.declared.holding.Ended.{Ended}
use Rattle.parts.specs.declared.members.Layout.TheVariants as L
use Rattle.parts.proofs.Laws.Holding.{never}
use Rattle.parts.proofs.Laws.Extends.{extends_front}
use Rattle.parts.proofs.Laws.Room.{slot_cost, slots_cost, layout_room}
use Rattle.parts.proofs.Laws.Formed.{then_read}
use Rattle.parts.proofs.Laws.Several.{is_object_lem}
use Rattle.parts.proofs.Laws.ReadParts.{Parts, parts_inv}
use Rattle.policy.proofs.Laws.StatementsParts.{There, placed_absent, placed_there}
use Rattle.policy.proofs.Laws.StatementsRead.{not_read, both_ways, pick_no, pick_wrong, pick_yes, right, turn_of_lem}
use Rattle.policy.proofs.Laws.StatementsRead.{required_none, slot_cost_lem, with_effect}
use Rattle.policy.proofs.Laws.StatementsRead.{five, in_turn_lem}

-- ---- no statement

pub not_object : (t : Json) → is_object (kind_of t) ≡ false → statement_of t ≡ wrong
unfolding statement_of
not_object null e = refl
not_object (bool b) e = refl
not_object (number w) e = refl
not_object (string w) e = refl
not_object (list ts) e = refl
not_object (object ms) e = never (sym e)

pub of_object :
    (run run' : List ℕ) (at e : ℕ) (r : Option Ended) (t : Json) (h : is_object (kind_of t) ≡ true)
    → HoldsTo held_statement run run' at (statement_of (object (is_object_lem t h).inside)) e r
    → HoldsTo held_statement run run' at (statement_of t) e r
of_object run run' at e r t h g =
    subst (λ (u : Json). HoldsTo held_statement run run' at (statement_of u) e r) (sym (is_object_lem t h).is) g

module _ (ms : Members) where
  abbrev pub Has : Statement → Type 0
  Has x =
      Parts (optional [] sid_of (slot sid_word ms)) (required effect_of (slot effect_word ms))
      (required (one_or_more action_of) (slot action_word ms)) (required (one_or_more resource_of) (slot resource_word ms))
      (optional [] condition_of (slot condition_word ms)) x

  statement_in_lem : ((x : Statement) → Has x → ⊥) → statement_in ms ≡ wrong
  unfolding statement_in
  statement_in_lem h =
      not_read (statement_in ms) (λ x e. h x (parts_inv (optional [] sid_of (slot sid_word ms))
      (required effect_of (slot effect_word ms)) (required (one_or_more action_of) (slot action_word ms))
      (required (one_or_more resource_of) (slot resource_word ms)) (optional [] condition_of (slot condition_word ms)) e))

  pub no_statement : ((x : Statement) → Has x → ⊥) → statement_of (object ms) ≡ wrong
  unfolding statement_of
  no_statement h = pick_wrong (known (words_of L.Statement) ms) (statement_in_lem h)

  unknown_none : known (words_of L.Statement) ms ≡ false → statement_of (object ms) ≡ wrong
  unfolding statement_of
  unknown_none e = pick_no (statement_in ms) e

  -- the member of a turn is there several times
  repeated_none : Repeated (words_of L.Statement) ms → statement_of (object ms) ≡ wrong
  repeated_none r = no_statement (by r.turn r.among r.many_times)
    where
      by : (k : ℕ) → Turn (words_of L.Statement) k → slot (word_at (words_of L.Statement) k) ms ≡ many → (x : Statement)
          → Has x → ⊥
      by zero t e x h = omega (arith, t.from)
      by (suc zero) t e x h = both_ways (ap (optional [] sid_of) e) h.sid_is
      by (suc (suc zero)) t e x h = both_ways (ap (required effect_of) e) h.effect_is
      by (suc (suc (suc zero))) t e x h = both_ways (ap (required (one_or_more action_of)) e) h.actions_are
      by (suc (suc (suc (suc zero)))) t e x h = both_ways (ap (required (one_or_more resource_of)) e) h.resources_are
      by (suc (suc (suc (suc (suc zero))))) t e x h = both_ways (ap (optional [] condition_of) e) h.rows_are
      by (suc (suc (suc (suc (suc (suc k)))))) t e x h = omega (arith, t.to)

  pub slots_left : {s run : List ℕ} {e : ℕ} {places : List ℕ} → Slotted s (words_of L.Statement) ms e places
      → get_or places 0 0 ≡ 0 → Left run run (statement_of (object ms))
  slots_left w n = record { size = refl; said = ⊎_elim unknown_none repeated_none (w.not_right n) }

  -- ---- a statement

  module _ {s places : List ℕ} {past : ℕ} (w : Slotted s (words_of L.Statement) ms past places)
      (z : get_or places 0 0 ≡ 0 → ⊥) where
    pub slots_end : get_or places 0 0 ≡ past
    slots_end = (right L.Statement w z).end

    pub sid_placed : Placed s (get_or places 1 0) (slot sid_word ms)
    sid_placed = (right L.Statement w z).placed 1 (turn_of_lem L.Statement 1 (omega arith) (omega arith))

    effect_placed : Placed s (get_or places 2 0) (slot effect_word ms)
    effect_placed = (right L.Statement w z).placed 2 (turn_of_lem L.Statement 2 (omega arith) (omega arith))

    action_placed : Placed s (get_or places 3 0) (slot action_word ms)
    action_placed = (right L.Statement w z).placed 3 (turn_of_lem L.Statement 3 (omega arith) (omega arith))

    resource_placed : Placed s (get_or places 4 0) (slot resource_word ms)
    resource_placed = (right L.Statement w z).placed 4 (turn_of_lem L.Statement 4 (omega arith) (omega arith))

    pub condition_placed : Placed s (get_or places 5 0) (slot condition_word ms)
    condition_placed = (right L.Statement w z).placed 5 (turn_of_lem L.Statement 5 (omega arith) (omega arith))

    pub effect_missing : {run : List ℕ} → get_or places 2 0 ≡ 0 → Left run run (statement_of (object ms))
    effect_missing e =
        record {
          size = refl;
          said = no_statement (λ x h. both_ways (required_none effect_of (placed_absent effect_placed e))
              h.effect_is);
        }

    pub action_missing : {run : List ℕ} → get_or places 3 0 ≡ 0 → Left run run (statement_of (object ms))
    action_missing e =
        record {
          size = refl;
          said = no_statement (λ x h. both_ways
              (required_none (one_or_more action_of) (placed_absent action_placed e)) h.actions_are);
        }

    pub resource_missing : {run : List ℕ} → get_or places 4 0 ≡ 0 → Left run run (statement_of (object ms))
    resource_missing e =
        record {
          size = refl;
          said = no_statement (λ x h. both_ways
              (required_none (one_or_more resource_of) (placed_absent resource_placed e)) h.resources_are);
        }

    module _ (ne : get_or places 2 0 ≡ 0 → ⊥) (na : get_or places 3 0 ≡ 0 → ⊥) (nr : get_or places 4 0 ≡ 0 → ⊥) where
      pub effect_there : There s (get_or places 2 0) (slot effect_word ms)
      effect_there = placed_there effect_placed ne

      pub action_there : There s (get_or places 3 0) (slot action_word ms)
      action_there = placed_there action_placed na

      pub resource_there : There s (get_or places 4 0) (slot resource_word ms)
      resource_there = placed_there resource_placed nr

      pub effect_standing : Standing s (get_or places 2 0)
      effect_standing =
          record { what = effect_there.what; stop = effect_there.stop; is = effect_there.stands }

      pub effect_left : {run : List ℕ} (x : Reading Effect) → x ≡ effect_of effect_there.what → x ≡ wrong
          → Left run run (statement_of (object ms))
      effect_left x q e =
          record {
            size = refl;
            said = no_statement (λ y h. both_ways
                (ap (required effect_of) effect_there.is ∙ sym q ∙ e) h.effect_is);
          }

      -- Effect's cost pays for what is absent
      pub parts_holdable : {run : List ℕ} (at : ℕ) → at + costm ms ≤ length run → length run ≤ 16384
          → HoldableParts s (get_or places 1 0) (get_or places 3 0) (get_or places 4 0) (get_or places 5 0) run (at + 1)
      unfolding slots_cost
      parts_holdable at r b =
          record {
            sid = slot sid_word ms;
            sid_is = sid_placed;
            action = action_there.what;
            action_stop = action_there.stop;
            action_is = action_there.stands;
            resource = resource_there.what;
            resource_stop = resource_there.stop;
            resource_is = resource_there.stands;
            condition = slot condition_word ms;
            condition_is = condition_placed;
            roomy = record {
              room = omega (
                arith,
                r,
                layout_room L.Statement ms,
                slot_cost_lem sid_word (slot sid_word ms),
                slot_cost_lem condition_word (slot condition_word ms),
                ap (slot_cost effect_word) effect_there.is,
                ap (slot_cost action_word) action_there.is,
                ap (slot_cost resource_word) resource_there.is,
              );
              bounded = b;
            };
          }

      pub front_room : {at n : ℕ} → at + costm ms ≤ n → at < n
      unfolding slots_cost
      front_room r = omega (arith, r, layout_room L.Statement ms, ap (slot_cost effect_word) effect_there.is)

      abbrev parts : Reading S.Parts
      parts = parts_of (slot sid_word ms) action_there.what resource_there.what (slot condition_word ms)

      pub parts_left : {run run' : List ℕ} → Left run run' parts → Left run run' (statement_of (object ms))
      unfolding parts_of
      parts_left l =
          record {
            size = l.size;
            said = no_statement (λ x h. both_ways l.said (then_read _ h.sid_is
                ∙ then_read _ (sym (ap (required (one_or_more action_of)) action_there.is) ∙ h.actions_are)
                ∙ then_read _ (sym (ap (required (one_or_more resource_of)) resource_there.is) ∙ h.resources_are)
                ∙ then_read _ h.rows_are));
          }

      said_by : (e : Effect) → effect_of effect_there.what ≡ read e
          → statement_of (object ms) ≡ then parts (λ p. read (with_effect e p))
      unfolding statement_of statement_in parts_of
      said_by e q =
          let i = optional [] sid_of (slot sid_word ms) in
          let xs = required (one_or_more action_of) (slot action_word ms) in
          let rs = required (one_or_more resource_of) (slot resource_word ms) in
          let cs = optional [] condition_of (slot condition_word ms) in
          pick_yes (statement_in ms) (right L.Statement w z).knows
          ∙ ap (λ y. five i y xs rs cs) (ap (required effect_of) effect_there.is ∙ q)
          ∙ ap (λ y. five i (read e) y rs cs) (ap (required (one_or_more action_of)) action_there.is)
          ∙ ap (λ y. five i (read e) (one_or_more action_of action_there.what) y cs)
          (ap (required (one_or_more resource_of)) resource_there.is)
          ∙ in_turn_lem e i (one_or_more action_of action_there.what) (one_or_more resource_of resource_there.what) cs

      pub statement_laid :
          {run run' : List ℕ} {at p n : ℕ} (f : Effect) → read f ≡ effect_of effect_there.what
          → n ≡ effect_number f → at < length run → Laid held_parts run run' (at + 1) parts p
          → Laid held_statement run (set run' at n) at (statement_of (object ms)) p
      unfolding held_parts held_statement
      statement_laid {run} {run'} {at} {p} {n} f q m low d =
          record {
            thing = with_effect f d.thing;
            said = said_by f (sym q) ∙ then_read _ d.said;
            extends = subst (λ (i : ℕ). Extends run (set run' at n) at (i ∷ held_parts d.thing) p) m
                (extends_front n low d.extends);
          }
