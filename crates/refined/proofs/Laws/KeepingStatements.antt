-- Statements that are left: their lists and the rows of these, and what is written.
use Prim.{Unit, tt}
use mathlib.Core.Path.{◌≡◌, refl, sym, ap, ◌∙◌, subst}
use mathlib.Core.List.{List, [], ◌∷◌, ◌++◌, map}
use Prim.Native.Nat.{ℕ, ◌+◌, ◌*◌, ◌≤◌}
use native.Mathlib.Omega.{arith}
use lib.ListN.{length, take, drop, length-append, length-map}
use Rattle.syntax.specs.Policy.{Effect, Value, text, number, Row, Statement}
use Rattle.held.specs.Held.{held_list, held_value, held_row, held_statement, total_of, row_entries, statement_entries}
use Rattle.held.specs.Lying.{Lies}
use Rattle.syntax.specs.Words.{resource_word}
use Rattle.held.specs.declared.runs.Seen.{Seen}
use Rattle.held.proofs.Laws.RunsStatement.{ListPassed}
use Rattle.held.proofs.Laws.Parts.{BehindLabel, texts_values, actions_lie, resources_lie, rows_lie}
use Rattle.writing.specs.declared.sink.Sink.{Sink}
use Rattle.writing.specs.Showing.{Adds}
use Rattle.writing.specs.Bytes.{list_bytes, condition_bytes, head_bytes, statement_bytes, name}
use Rattle.writing.proofs.Laws.Showing.{adds_as, adds_then}
use Rattle.writing.proofs.Laws.Pieces.{head_before}
use Rattle.candidates.specs.Candidates.{Candidate, itself, single, under, up_to, Content, empty, holds}
use Rattle.candidates.specs.Entries.{Place, in_action, in_resource, in_row, refined}
use Rattle.candidates.specs.Rows.{row_numbers, content_of}
use Rattle.rooms.specs.Rooms.{slots_at, row_slots, statement_slots}
use Rattle.refined.specs.Finishing.{kept_by, kept, behind, text_of, kept_texts, kept_rows, kept_statement}
use Rattle.refined.specs.Keeping.{from, Writable, nothing, whole, one, begun, at_most, WritRows, Ready, Kept}
use Rattle.refined.specs.Keeping.{Ranged, entries_of, row_values, statement_values}
use Rattle.refined.proofs.Laws.Keeping.{writ_content}
use Rattle.refined.proofs.Laws.KeepingLists.{from_on, writ_head, writ_tail, ready_front, ready_back}

-- a text is not written as a number
abbrev Suits : Content → Value → Type 0
Suits empty v = Unit {0}
Suits (holds itself) v = Unit {0}
Suits (holds (single t)) v = Unit {0}
Suits (holds (under q)) v = Unit {0}
Suits (holds (up_to n)) (text ys) = ⊥
Suits (holds (up_to n)) (number m) = Unit {0}

suits : {x : Value} {c : Content} → Writable x c → Suits c x
suits nothing = tt
suits whole = tt
suits (one h) = tt
suits (begun h) = tt
suits (at_most h) = tt

-- ---- as many rows as entries

rows_many : (rs : List Row) → length (row_values rs) ≡ row_entries rs
unfolding row_values total_of
rows_many [] = refl
rows_many (r ∷ rs) = omega (arith, length-append r.entries (row_values rs), rows_many rs)

slots_many : (e : Effect) (p : Place) (xs : List Value) → length (slots_at e p xs) ≡ length xs
slots_many e p xs = length-map xs (λ x. record { effect = e; place = p; entry = x })

rows_slots : (e : Effect) (rs : List Row) → length (row_slots e rs) ≡ length (row_values rs)
unfolding row_values row_slots
rows_slots e [] = refl
rows_slots e (r ∷ rs) =
    omega (
      arith,
      length-append (slots_at e (in_row r.operator) r.entries) (row_slots e rs),
      slots_many e (in_row r.operator) r.entries,
      length-append r.entries (row_values rs),
      rows_slots e rs,
    )

module _ (x : Statement) where
  abbrev pub action_values : List Value
  action_values = map text x.actions

  abbrev pub resource_values : List Value
  resource_values = map text x.resources

  pub statement_count :
      length (statement_values x) ≡ length action_values + (length resource_values + length (row_values x.rows))
  unfolding statement_values
  statement_count =
      omega (
        arith,
        length-append action_values (resource_values ++ row_values x.rows),
        length-append resource_values (row_values x.rows),
      )

  pub statement_many : length (statement_values x) ≡ statement_entries x
  unfolding statement_entries
  statement_many =
      omega (
        arith,
        statement_count,
        length-map x.actions text,
        length-map x.resources text,
        rows_many x.rows,
      )

  pub statement_slots_lem : length (statement_slots x) ≡ length (statement_values x)
  unfolding statement_slots
  statement_slots_lem =
      let e = x.effect in
      let rs = row_slots e x.rows in
      let bs = slots_at e in_resource resource_values in
      omega (
        arith,
        statement_count,
        length-append (slots_at e in_action action_values) (bs ++ rs),
        length-append bs rs,
        slots_many e in_action action_values,
        slots_many e in_resource resource_values,
        rows_slots e x.rows,
      )

-- ---- the rows of each list

module _ {room : List ℕ} {s : ℕ} (x : Statement) (r : Ready room s (statement_values x)) where
  parts_ready : Ready room s (action_values x ++ (resource_values x ++ row_values x.rows))
  unfolding statement_values
  parts_ready = r

  pub actions_ready : Ready room s (action_values x)
  actions_ready = ready_front (action_values x) (resource_values x ++ row_values x.rows) parts_ready

  module _ {m : ℕ} (e : m ≡ length (action_values x)) where
    behind_ready : Ready room (s + m) (resource_values x ++ row_values x.rows)
    behind_ready =
        subst (λ (z : ℕ). Ready room (s + z) (resource_values x ++ row_values x.rows)) (sym e)
        (ready_back (action_values x) (resource_values x ++ row_values x.rows) parts_ready)

    pub resources_ready : Ready room (s + m) (resource_values x)
    resources_ready = ready_front (resource_values x) (row_values x.rows) behind_ready

    pub rows_ready : {n : ℕ} → n ≡ length (resource_values x) → Ready room (s + m + n) (row_values x.rows)
    rows_ready f =
        subst (λ (z : ℕ). Ready room (s + m + z) (row_values x.rows)) (sym f)
        (ready_back (resource_values x) (row_values x.rows) behind_ready)

-- ---- as many entries as the walks tell

module _ {run : List ℕ} {p a : ℕ} (x : Statement) (l : Lies run p (held_statement x)) (far : BehindLabel run p a) where
  module _ {b : Seen} (at_b : ListPassed run a b) where
    pub actions_many : b.entries ≡ length (action_values x)
    actions_many = (at_b (action_values x) (texts_values x.actions (actions_lie x l far))).many

    pub resources_many : {c : Seen} → ListPassed run b.past c → c.entries ≡ length (resource_values x)
    resources_many at_c = (at_c (resource_values x) (texts_values x.resources (resources_lie x l far at_b))).many

-- ---- the lists as they are kept

module _ {run room : List ℕ} {p s a : ℕ} (y : Kept held_statement statement_values run p room s)
    (far : BehindLabel run p a) where
  abbrev pub actions_kept : Kept (held_list held_value) entries_of run a room s
  actions_kept =
      record {
        thing = map text y.thing.actions;
        lies = texts_values y.thing.actions (actions_lie y.thing y.lies far);
        ready = actions_ready y.thing y.ready;
      }

  module _ {b : Seen} (at_b : ListPassed run a b) where
    abbrev pub resources_kept : Kept (held_list held_value) entries_of run b.past room (s + b.entries)
    resources_kept =
        record {
          thing = map text y.thing.resources;
          lies = texts_values y.thing.resources (resources_lie y.thing y.lies far at_b);
          ready = resources_ready y.thing y.ready (actions_many y.thing y.lies far at_b);
        }

    abbrev pub rows_kept :
        {c : Seen} → ListPassed run b.past c
        → Kept (held_list held_row) row_values run c.past room (s + b.entries + c.entries)
    rows_kept at_c =
        record {
          thing = y.thing.rows;
          lies = rows_lie y.thing y.lies far at_b at_c;
          ready = rows_ready y.thing y.ready (actions_many y.thing y.lies far at_b)
              (resources_many y.thing y.lies far at_b at_c);
        }

-- ---- and as their rows are there

module _ {run room : List ℕ} {p s a : ℕ} (y : Ranged held_statement statement_values run p room s)
    (far : BehindLabel run p a) {b : Seen} (at_b : ListPassed run a b) where
  pub actions_enough : row_numbers * (s + b.entries) ≤ length room
  actions_enough =
      omega (arith, y.enough, statement_count y.thing, actions_many y.thing y.lies far at_b)

  module _ {c : Seen} (at_c : ListPassed run b.past c) where
    pub rows_ranged : Ranged (held_list held_row) row_values run c.past room (s + b.entries + c.entries)
    rows_ranged =
        record {
          thing = y.thing.rows;
          lies = rows_lie y.thing y.lies far at_b at_c;
          enough = omega (
            arith,
            y.enough,
            statement_count y.thing,
            actions_many y.thing y.lies far at_b,
            resources_many y.thing y.lies far at_b at_c,
          );
        }

    pub resources_enough : row_numbers * (s + b.entries + c.entries) ≤ length room
    resources_enough = omega (arith, rows_ranged.enough)

-- ---- the lists of the statement that is left

module _ (room : List ℕ) (s : ℕ) (x : Statement) {m n : ℕ} (e : m ≡ length (action_values x))
    (f : n ≡ length (resource_values x)) where
  pub actions_behind : behind x.actions (from room s) ≡ from room (s + m)
  actions_behind =
      from_on room s (length x.actions)
      ∙ ap (λ (z : ℕ). from room (s + z)) (sym (length-map x.actions text) ∙ sym e)

  pub resources_behind : behind x.resources (behind x.actions (from room s)) ≡ from room (s + m + n)
  resources_behind =
      ap (behind x.resources) actions_behind ∙ from_on room (s + m) (length x.resources)
      ∙ ap (λ (z : ℕ). from room (s + m + z)) (sym (length-map x.resources text) ∙ sym f)

-- ---- an Allow statement, written

text_stays :
    (x : List ℕ) (c : Candidate) → Suits (holds c) (text x) → text (text_of (refined (text x) c)) ≡ refined (text x) c
text_stays x itself v = refl
text_stays x (single t) v = refl
text_stays x (under q) v = refl
text_stays x (up_to n) v = absurd v

text_kept :
    (x : List ℕ) (zs : List Value) → map text (map text_of zs) ≡ zs → (c : Content) → Suits c (text x)
    → map text (map text_of (kept_by c (text x) zs)) ≡ kept_by c (text x) zs
text_kept x zs e empty v = e
text_kept x zs e (holds c) v =
    ap (λ (z : Value). z ∷ map text (map text_of zs)) (text_stays x c v)
    ∙ ap (λ (l : List Value). refined (text x) c ∷ l) e

-- the entries of texts stay texts
texts_kept :
    (xs : List (List ℕ)) {ns : List ℕ} → WritRows (map text xs) ns
    → map text (kept_texts xs ns) ≡ kept (map text xs) ns
unfolding kept
texts_kept [] w = refl
texts_kept (x ∷ xs) {ns} w =
    text_kept x (kept (map text xs) (drop row_numbers ns)) (texts_kept xs (writ_tail w)) (content_of (take row_numbers ns))
    (subst (λ (c : Content). Suits c (text x)) (sym (writ_content (writ_head w))) (suits (writ_head w).writable))

module _ {run room : List ℕ} {p s a : ℕ} (y : Kept held_statement statement_values run p room s)
    (far : BehindLabel run p a) {b c : Seen} (at_b : ListPassed run a b) (at_c : ListPassed run b.past c) where
  pub statement_adds :
      {u u₁ u₂ u₃ u₄ u₅ u₆ : Sink} → Adds (head_bytes y.thing) u u₁
      → Adds (list_bytes 0 (kept (action_values y.thing) (from room s))) u₁ u₂
      → Adds (44 ∷ name resource_word) u₂ u₃
      → Adds (list_bytes 2 (kept (resource_values y.thing) (from room (s + b.entries)))) u₃ u₄
      → Adds (condition_bytes (kept_rows y.thing.rows (from room (s + b.entries + c.entries)))) u₄ u₅
      → Adds (125 ∷ []) u₅ u₆ → Adds (statement_bytes (kept_statement y.thing (from room s))) u u₆
  unfolding statement_bytes kept_statement head_bytes
  statement_adds head actions resource resources rows close =
      let x = y.thing in
      let m = actions_many x y.lies far at_b in
      let n = resources_many x y.lies far at_b at_c in
      let r = (resources_ready x y.ready m).writ in
      let after_actions = sym (actions_behind room s x m n) in
      let first = sym (texts_kept x.actions (actions_ready x y.ready).writ) in
      let second = ap (λ (l : List ℕ). kept (resource_values x) l) after_actions
      ∙ sym (texts_kept x.resources (subst (WritRows (resource_values x)) after_actions r)) in
      let third = ap (kept_rows x.rows) (sym (resources_behind room s x m n)) in
      adds_as (head_before (kept_statement x (from room s)) _)
      (adds_then head (adds_then (adds_as (ap (list_bytes 0) first) actions)
      (adds_then resource (adds_then (adds_as (ap (list_bytes 2) second) resources)
      (adds_then (adds_as (ap condition_bytes third) rows) close)))))
