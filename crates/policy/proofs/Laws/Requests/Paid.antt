-- What is read of a record's members is paid by what they cost, so that each has its room behind the one before it.
use mathlib.Core.Path.{◌≡◌, sym, ap, ◌∙◌}
use mathlib.Core.List.{List, [], ◌∷◌}
use Prim.Native.Nat.{ℕ, ◌+◌, ◌≤◌}
use native.Mathlib.Omega.{arith}
use lib.ListN.{length}
use Rattle.text.specs.Json.{Json, object, Members}
use Rattle.syntax.specs.Forms.{read}
use Rattle.syntax.specs.Words.{action_names_word, resource_arns_word, context_entries_word}
use Rattle.syntax.specs.Members.{Slot, none, many, one, only, slot}
use Rattle.syntax.specs.RecordLayout.{only_one, is_action_name, action_name_of, is_resource_arn}
use Rattle.held.specs.Held.{held_text}
use Rattle.parts.specs.Room.{cost, costm, Roomy, cost_of}
use Rattle.parts.specs.Holding.{Laid}
use Rattle.parts.specs.declared.members.Layout.TheVariants as L
use Rattle.parts.proofs.Laws.Room.{slot_cost, slots_cost, layout_room, cost_object}
use Rattle.parts.proofs.Laws.Fits.{wrong_read, then_inv, only_inv}
use Rattle.parts.proofs.Laws.Requests.Sole.{the_one, action_name_said, resource_arn_said}
use Rattle.policy.proofs.Laws.Requests.Fits.{slot_value, required_cost, one_fit}
use Rattle.policy.proofs.Laws.Requests.Record.{action_in, resource_in}

action_fit : (x : Slot) (a : List ℕ) → action_in x ≡ read a → length a + 3 ≤ cost_of x
action_fit x a e =
    let p = then_inv (the_one x) (λ cs. only (is_action_name cs) cs) (sym (action_name_said x) ∙ e) in
    let q = only_inv (is_action_name p.thing) p.next in
    omega (arith, ap length q, one_fit x p.thing p.said)

resource_fit : (y : Slot) (r : List ℕ) → resource_in y ≡ read r → length r ≤ 1 + cost_of y
resource_fit none r e = let z : 42 ∷ [] ≡ r = cc in omega (arith, ap length z)
resource_fit many r e = wrong_read e
resource_fit (one t) r e =
    let p = then_inv (the_one (one t)) (λ cs. only (is_resource_arn cs) cs) (sym (resource_arn_said t) ∙ e) in
    let q = only_inv (is_resource_arn p.thing) p.next in
    omega (arith, ap length q, one_fit (one t) p.thing p.said)

record_room : (ms : Members)
    → slot_cost action_names_word (slot action_names_word ms)
    + (slot_cost resource_arns_word (slot resource_arns_word ms)
    + (slot_cost context_entries_word (slot context_entries_word ms) + 0)) ≤ costm ms
unfolding slots_cost
record_room ms = layout_room L.Record ms

module _ {run : List ℕ} (t : Json) (room : Roomy run 0 (0 + cost t)) (ms : Members) (is : t ≡ object ms) where
  abbrev x : Slot
  x = slot action_names_word ms

  abbrev y : Slot
  y = slot resource_arns_word ms

  abbrev z : Slot
  z = slot context_entries_word ms

  enough : 2 + costm ms ≤ length run
  enough = omega (arith, room.room, ap cost is ∙ cost_object ms)

  pub action_room : Roomy run 0 (0 + cost_of x)
  action_room =
      record {
        room = omega (arith, enough, record_room ms, slot_value action_names_word x);
        bounded = room.bounded;
      }

  module _ {run₁ : List ℕ} {p : ℕ} (a : Laid held_text run run₁ 0 (action_in x) p) where
    action_paid : p + 16 + slot_cost resource_arns_word y + slot_cost context_entries_word z ≤ length run
    action_paid =
        omega (
          arith,
          enough,
          record_room ms,
          required_cost (only_one action_name_of) action_names_word x a.said,
          action_fit x a.thing a.said,
          a.extends.place,
        )

    pub resource_room : Roomy run₁ p (2 + cost_of y)
    resource_room =
        record {
          room = omega (arith, action_paid, slot_value resource_arns_word y, a.extends.size);
          bounded = omega (arith, room.bounded, a.extends.size);
        }

    pub contexts_room : {run₂ : List ℕ} {q : ℕ} → Laid held_text run₁ run₂ p (resource_in y) q
        → Roomy run₂ q (1 + cost_of z)
    contexts_room b =
        record {
          room = omega (
            arith,
            action_paid,
            slot_value resource_arns_word y,
            slot_value context_entries_word z,
            resource_fit y b.thing b.said,
            b.extends.place,
            b.extends.size,
            a.extends.size,
          );
          bounded = omega (arith, room.bounded, b.extends.size, a.extends.size);
        }
