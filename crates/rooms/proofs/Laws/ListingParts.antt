-- The parts of a statement, noted one behind the other: its actions, resources and rows, and what each is asked for.
use mathlib.Core.Path.{◌≡◌, sym, ap, ◌∙◌, subst}
use mathlib.Core.List.{List, [], ◌++◌, map}
use Prim.Native.Nat.{ℕ, ◌+◌, ◌<◌}
use Rattle.std.specs.Prelude.{Option, Some, None}
use native.Mathlib.Omega.{arith}
use lib.ListN.{length, get_or, length-map, length-append}
use Rattle.syntax.specs.Policy.{Effect, Value, text, Row, Statement, Context, Request}
use Rattle.held.specs.Held.{held_text, held_value, held_list, held_row, held_statement, held_request, effect_number}
use Rattle.held.specs.Held.{row_entries, statement_entries}
use Rattle.held.specs.Lying.{Lies, Lying}
use Rattle.held.proofs.Laws.Runs.{lies_front, lies_back, lies_inside}
use Rattle.held.proofs.Laws.RunsStatement.{texts_list}
use Rattle.held.proofs.Laws.Places.{more_lies}
use Rattle.held.proofs.Laws.Parts.{BehindLabel, BehindValue, statement_labelled, statement_labelled_lem, statement_effect}
use Rattle.held.proofs.Laws.Parts.{actions_lie, texts_values, action_lies, resource_lies, contexts_lie}
use Rattle.decision.specs.Decision.{Found, nothing, found}
use Rattle.candidates.specs.Entries.{Place, in_action, in_resource}
use Rattle.rooms.specs.Rooms.{Slot, slots_at, row_slots, statement_slots, hits, row_hits}
use Rattle.rooms.specs.Listing.{Effecting, Valued, no_value, a_value, Carried, Asked, no_context, contexts, Asking}
use Rattle.rooms.specs.Listing.{Lists, ListsTo, Listable, statement_found}
use Rattle.rooms.specs.declared.listing.Note.{Note}
use Rattle.rooms.specs.declared.listing.Noted.{Noted}
use Rattle.rooms.proofs.Laws.ListingWalk.{lists_then, lists_ending}
use Rattle.rooms.proofs.Laws.ListingStatement.{slots_many}

-- what a walk over a list noted, and one over rows
abbrev pub EntriesListed : (effect : ℕ) (k : Place) (run : List ℕ) (p : ℕ) (at : List ℕ) (v : Option ℕ)
    (dir : List Note) (o : ℕ) (after : List Note) (g : Noted) → Type 0
EntriesListed effect k run p at v dir o after g =
    (a : Effect) (xs : List Value) (f : Found) → effect ≡ effect_number a → Lies run p (held_list held_value xs)
    → Valued at v f
    → ListsTo run at (slots_at a k xs) (hits k f xs) dir o after (p + length (held_list held_value xs)) g

abbrev pub RowsListed : (effect : ℕ) (run : List ℕ) (p : ℕ) (at : List ℕ) (v : Option ℕ) (dir : List Note) (o : ℕ)
    (after : List Note) (g : Noted) → Type 0
RowsListed effect run p at v dir o after g =
    (a : Effect) (xs : List Row) (cs : List Context) → effect ≡ effect_number a → Lies run p (held_list held_row xs)
    → Asked at v cs
    → ListsTo run at (row_slots a xs) (row_hits xs cs) dir o after (p + length (held_list held_row xs)) g

module _ (s : Statement) where
  abbrev pub action_slots : List Slot
  action_slots = slots_at s.effect in_action (map text s.actions)

  abbrev pub resource_slots : List Slot
  resource_slots = slots_at s.effect in_resource (map text s.resources)

  abbrev pub actions_length : ℕ
  actions_length = length (held_list held_value (map text s.actions))

  abbrev pub resources_length : ℕ
  resources_length = length (held_list held_value (map text s.resources))

-- ---- what is noted of each, one behind the other

-- behind a list of texts lies what follows it
behind_texts :
    {run : List ℕ} {p e : ℕ} (xs : List (List ℕ)) (ys : List ℕ) → Lies run p (held_list held_text xs ++ ys)
    → e ≡ p + length (held_list held_value (map text xs)) → Lies run e ys
behind_texts {run} {p} xs ys l far =
    subst (λ (z : ℕ). Lies run z ys) (ap (λ (zs : List ℕ). p + length zs) (texts_list xs) ∙ sym far)
    (lies_back (held_list held_text xs) ys l)

module _ {run : List ℕ} {p a : ℕ} (s : Statement) (l : Lies run p (held_statement s)) (far : BehindLabel run p a) where
  label_far : a ≡ p + 2 + length s.sid
  label_far = far (statement_labelled s) (statement_labelled_lem s l)

  pub actions_listed :
      {at : List ℕ} {dir mid : List Note} {v : Option ℕ} {o : ℕ} {f : Found} {g : Noted} → EntriesListed (get_or run p 0) in_action run a at v dir o mid g
      → Valued at v f
      → ListsTo run at (action_slots s) (hits in_action f (map text s.actions)) dir o mid (a + actions_length s) g
  actions_listed {f = f} x w =
      x s.effect (map text s.actions) f (statement_effect s l)
      (texts_values s.actions (actions_lie s l far)) w

  module _ {b : ℕ} (at_b : b ≡ a + actions_length s) where
    behind_actions_lem : Lies run b (held_list held_text s.resources ++ held_list held_row s.rows)
    behind_actions_lem =
        behind_texts s.actions (held_list held_text s.resources ++ held_list held_row s.rows)
        (more_lies (statement_labelled s) (statement_labelled_lem s l) a label_far) at_b

    pub resources_lie : Lies run b (held_list held_value (map text s.resources))
    resources_lie =
        texts_values s.resources
        (lies_front (held_list held_text s.resources) (held_list held_row s.rows) behind_actions_lem)

    pub resources_listed :
        {at : List ℕ} {dir mid : List Note} {v : Option ℕ} {o : ℕ} {f : Found} {g : Noted} → EntriesListed (get_or run p 0) in_resource run b at v dir o mid g
        → Valued at v f
        → ListsTo run at (resource_slots s) (hits in_resource f (map text s.resources)) dir o mid
        (b + resources_length s) g
    resources_listed {f = f} x w =
        x s.effect (map text s.resources) f (statement_effect s l) resources_lie w

    module _ {c : ℕ} (at_c : c ≡ b + resources_length s) where
      pub rows_lie : Lies run c (held_list held_row s.rows)
      rows_lie = behind_texts s.resources (held_list held_row s.rows) behind_actions_lem at_c

      statement_ends : c + length (held_list held_row s.rows) ≡ p + length (held_statement s)
      unfolding held_statement
      statement_ends =
          let xs : List ℕ = held_list held_text s.actions in
          let ys : List ℕ = held_list held_text s.resources in
          let zs : List ℕ = held_list held_row s.rows in
          omega (
            arith,
            label_far,
            at_b,
            at_c,
            ap length (texts_list s.actions),
            ap length (texts_list s.resources),
            length-append s.sid (xs ++ (ys ++ zs)),
            length-append xs (ys ++ zs),
            length-append ys zs,
          )

      -- the statement ends where its rows do
      pub rows_listed :
          {at : List ℕ} {dir mid : List Note} {v : Option ℕ} {o : ℕ} {cs : List Context} {g : Noted}
          → RowsListed (get_or run p 0) run c at v dir o mid g → Asked at v cs
          → ListsTo run at (row_slots s.effect s.rows) (row_hits s.rows cs) dir o mid
          (p + length (held_statement s)) g
      rows_listed {cs = cs} x w =
          lists_ending statement_ends (x s.effect s.rows cs (statement_effect s l) rows_lie w)

-- all of them
pub statement_listed :
    {run at : List ℕ} {dir one two after : List Note} {o m n e : ℕ} {r : Noted} (s : Statement) (f g : Found) (cs : List Context)
    → Lists run at (action_slots s) (hits in_action f (map text s.actions)) dir o m one
    → Lists run at (resource_slots s) (hits in_resource g (map text s.resources)) one m n two
    → ListsTo run at (row_slots s.effect s.rows) (row_hits s.rows cs) two n after e r
    → ListsTo run at (statement_slots s) (statement_found s f g cs) dir o after e r
unfolding statement_slots statement_found
statement_listed s f g cs x y z = record { lists = lists_then x (lists_then y z.lists); past = z.past }

-- ---- each has room

module _ {run : List ℕ} {dir : List Note} {p o : ℕ} (y : Listable held_statement statement_entries run p dir o) where
  pub statement_lies : Lying held_statement run p
  statement_lies = record { thing = y.thing; lies = y.lies }

  pub statement_effecting : Effecting (get_or run p 0)
  statement_effecting = record { effect = y.thing.effect; is = statement_effect y.thing y.lies }

  module _ {a : ℕ} (far : BehindLabel run p a) where
    pub actions_listable : Listable (held_list held_value) length run a dir o
    unfolding statement_entries
    actions_listable =
        record {
          thing = map text y.thing.actions;
          lies = texts_values y.thing.actions (actions_lie y.thing y.lies far);
          room = omega (arith, y.room, length-map y.thing.actions text);
        }

    module _ {at : List ℕ} {mid : List Note} {fs : List Found} {b : Noted}
        (x : ListsTo run at (action_slots y.thing) fs dir o mid (a + actions_length y.thing) b) where
      pub resources_listable : Listable (held_list held_value) length run b.past mid b.next
      unfolding statement_entries
      resources_listable =
          record {
            thing = map text y.thing.resources;
            lies = resources_lie y.thing y.lies far x.past;
            room = omega (
              arith,
              y.room,
              x.lists.next,
              x.lists.size,
              slots_many y.thing.effect in_action (map text y.thing.actions),
              length-map y.thing.actions text,
              length-map y.thing.resources text,
            );
          }

      pub rows_listable :
          {after : List Note} {gs : List Found} {c : Noted}
          → ListsTo run at (resource_slots y.thing) gs mid b.next after (b.past + resources_length y.thing) c
          → Listable (held_list held_row) row_entries run c.past after c.next
      unfolding statement_entries
      rows_listable z =
          record {
            thing = y.thing.rows;
            lies = rows_lie y.thing y.lies far x.past z.past;
            room = omega (
              arith,
              y.room,
              x.lists.next,
              x.lists.size,
              z.lists.next,
              z.lists.size,
              slots_many y.thing.effect in_action (map text y.thing.actions),
              slots_many y.thing.effect in_resource (map text y.thing.resources),
              length-map y.thing.actions text,
              length-map y.thing.resources text,
            );
          }

-- ---- what a request is asked for

pub carried_none : (at : List ℕ) → Carried at None
carried_none at = record { value = nothing; valued = no_value }

pub asking_none : (at : List ℕ) → Asking at None
asking_none at = record { context = []; asked = no_context }

module _ {at : List ℕ} (q : Request) (l : Lies at 0 (held_request q)) where
  pub action_valued : Valued at (Some 0) (found (text q.action))
  action_valued = a_value (action_lies q l)

  module _ {t : ℕ} (at_t : BehindValue at 0 t) where
    pub resource_valued : Valued at (Some t) (found (text q.resource))
    resource_valued = a_value (resource_lies q l at_t)

    pub contexts_asked : {c : ℕ} → BehindValue at t c → Asked at (Some c) q.context
    contexts_asked at_c = contexts (contexts_lie q l at_t at_c)

-- every part of it, for what lies there
module _ {at : List ℕ} (y : Lying held_request at 0) where
  pub action_carried : Carried at (Some 0)
  action_carried = record { value = found (text y.thing.action); valued = action_valued y.thing y.lies }

  module _ {t : ℕ} (at_t : BehindValue at 0 t) where
    pub resource_inside : t < length at
    resource_inside = lies_inside (resource_lies y.thing y.lies at_t)

    pub resource_carried : Carried at (Some t)
    resource_carried =
        record { value = found (text y.thing.resource); valued = resource_valued y.thing y.lies at_t }

    module _ {c : ℕ} (at_c : BehindValue at t c) where
      pub contexts_inside : c < length at
      contexts_inside = lies_inside (contexts_lie y.thing y.lies at_t at_c)

      pub contexts_asking : Asking at (Some c)
      contexts_asking = record { context = y.thing.context; asked = contexts_asked y.thing y.lies at_t at_c }
