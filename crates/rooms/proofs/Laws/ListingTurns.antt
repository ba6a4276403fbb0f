-- One turn of a walk: the entries of a list, the rows of a list, the statements of a policy.
use mathlib.Core.Path.{◌≡◌, refl, subst}
use mathlib.Core.List.{List, [], ◌∷◌, ◌++◌}
use Prim.Native.Nat.{ℕ, ◌+◌, ◌≤◌, ◌<◌}
use native.Mathlib.Omega.{arith}
use lib.ListN.{length, get_or, set, length-append}
use Rattle.std.specs.Prelude.{Option}
use Rattle.syntax.specs.Policy.{Effect, Operator, Value, Row, Statement, Policy, Context}
use Rattle.held.specs.Held.{held_each, held_value, held_list, held_row, held_statement, held, effect_number, operator_number}
use Rattle.held.specs.Held.{row_entries, statement_entries, entries}
use Rattle.held.specs.Lying.{Lies, Lying}
use Rattle.held.specs.Places.{Labelled}
use Rattle.held.proofs.Laws.RunsStatement.{policy_count, policy_lies}
use Rattle.held.proofs.Laws.Parts.{BehindLabel, BehindValue, row_inside, entries_lie}
use Rattle.decision.specs.Decision.{Found, value_at}
use Rattle.candidates.specs.Entries.{Place, in_row}
use Rattle.rooms.specs.Rooms.{Slot, slots_at, row_slots, statement_slots, slots, hit, hits, row_hits}
use Rattle.rooms.specs.Listing.{Effecting, Valued, Carried, Asked, Asking, Notes, Lists}
use Rattle.rooms.specs.declared.listing.Note.{Note}
use Rattle.rooms.specs.Listing.{ListsTo, Listable}
use Rattle.rooms.specs.declared.listing.Noted.{Noted}
use Rattle.rooms.proofs.Laws.ListingWalk.{lists_ending, lists_one, Walk, walk_start, walk_lying, walk_room}
use Rattle.rooms.proofs.Laws.ListingWalk.{walk_next, walk_end}
use Rattle.rooms.proofs.Laws.ListingStatement.{slots_many, row_slots_many, statement_slots_many}
use Rattle.rooms.proofs.Laws.ListingStatement.{policy_slots_many}

-- ---- the entries of a list are walked

module _ (a : Effect) (p : Place) (xs : List Value) (f : Found) (run at : List ℕ) (dir₀ : List Note) (o₀ : ℕ) where
  abbrev pub EntriesWalk : (ends n i e : ℕ) (dir : List Note) (o : ℕ) → Type 0
  EntriesWalk ends n i e dir o =
      Walk held_value (slots_at a p) (hits p f) run at dir₀ o₀ (slots_at a p xs) (hits p f xs) ends n i e dir o

module _ (a : Effect) (p : Place) (xs : List Value) (f : Found) {run at : List ℕ} {dir₀ dir : List Note} {o₀ ends n i e o : ℕ}
    (w : EntriesWalk a p xs f run at dir₀ o₀ ends n i e dir o) (t : i < n) where
  one : Value → List Slot
  one x = record { effect = a; place = p; entry = x } ∷ []

  entry_room : o₀ + length xs ≤ length dir₀ → o < length dir
  unfolding one
  entry_room room =
      omega (arith, (walk_room w one (λ x ys. refl) t (λ x. 1) (λ x. refl) (omega (arith, room, slots_many a p xs))).room)

  pub entry_next :
      {q : ℕ} (x : Note) → BehindValue run e q → o < length dir
      → ((y : Value) → Lies run e (held_value y)
      → Notes run at x (record { effect = a; place = p; entry = y }) (hit p f y))
      → EntriesWalk a p xs f run at dir₀ o₀ ends n (i + 1) q (set dir o x) (o + 1)
  unfolding one
  entry_next {q} x far h told =
      walk_next w one (λ y ys. refl) (λ y. hit p f y ∷ []) (λ y ys. refl) t (set dir o x)
      (record { next = o + 1; past = q }) (λ y l. record { lists = lists_one x (told y l) h; past = far y l })

-- whichever entries lie there, and those that do
abbrev pub EntriesWalks :
    (effect : ℕ) (k : Place) (run : List ℕ) (p : ℕ) (at : List ℕ) (v : Option ℕ) (dir₀ : List Note) (o₀ n i e : ℕ)
    (dir : List Note) (o : ℕ) → Type 0
EntriesWalks effect k run p at v dir₀ o₀ n i e dir o =
    (a : Effect) (xs : List Value) (f : Found) → effect ≡ effect_number a → Lies run p (held_list held_value xs)
    → Valued at v f → EntriesWalk a k xs f run at dir₀ o₀ (p + 1 + length (held_each held_value xs)) n i e dir o

module _ {effect : ℕ} {k : Place} {run : List ℕ} {p : ℕ} {at : List ℕ} {v : Option ℕ} {dir₀ : List Note}
    {o₀ n i e : ℕ} {dir : List Note} {o : ℕ} (w : EntriesWalks effect k run p at v dir₀ o₀ n i e dir o)
    (y : (Effecting effect) × (Listable (held_list held_value) length run p dir₀ o₀) × (Carried at v)) where
  entries_here : EntriesWalk y.0.effect k y.1.thing y.2.value run at dir₀ o₀
      (p + 1 + length (held_each held_value y.1.thing)) n i e dir o
  entries_here = w y.0.effect y.1.thing y.2.value y.0.is y.1.lies y.2.valued

  pub entries_size : length dir ≡ length dir₀
  entries_size = entries_here.lists.size

  pub entry_lying : i < n → Lying held_value run e
  entry_lying t = walk_lying entries_here t

  pub entry_noting : i < n → o < length dir
  entry_noting t = entry_room y.0.effect k y.1.thing y.2.value entries_here t y.1.room

-- ---- the rows of a list are walked

-- a row ends where its entries do
row_ends :
    {run : List ℕ} {p l : ℕ} (x : Row) → Lies run p (held_row x) → BehindLabel run p l
    → l + length (held_list held_value x.entries) ≡ p + length (held_row x)
unfolding held_row
row_ends x m far =
    let entries : List ℕ = held_list held_value x.entries in
    let z : Labelled = record { first = operator_number x.operator; label = x.key; more = entries } in
    omega (arith, far z m, length-append x.key entries)

module _ (a : Effect) (xs : List Row) (cs : List Context) (run at : List ℕ) (dir₀ : List Note) (o₀ : ℕ) where
  abbrev pub RowsWalk : (ends n i e : ℕ) (dir : List Note) (o : ℕ) → Type 0
  RowsWalk ends n i e dir o =
      Walk held_row (row_slots a) (λ ys. row_hits ys cs) run at dir₀ o₀ (row_slots a xs) (row_hits xs cs) ends n i e dir o

module _ (a : Effect) (xs : List Row) (cs : List Context) {run at : List ℕ} {dir₀ dir : List Note} {o₀ ends n i e o : ℕ}
    (w : RowsWalk a xs cs run at dir₀ o₀ ends n i e dir o) (t : i < n) where
  abbrev row_one : Row → List Slot
  row_one x = slots_at a (in_row x.operator) x.entries

  row_room :
      o₀ + row_entries xs ≤ length dir₀ → Listable held_row (λ x. length x.entries) run e dir o
  unfolding row_slots
  row_room room =
      walk_room w row_one (λ x ys. refl) t (λ x. length x.entries)
      (λ x. slots_many a (in_row x.operator) x.entries) (omega (arith, room, row_slots_many a xs))

  pub row_next :
      {l : ℕ} {after : List Note} {g : Noted} → BehindLabel run e l
      → ((x : Row) → Lies run e (held_row x)
      → ListsTo run at (row_one x) (hits (in_row x.operator) (value_at x.key cs) x.entries) dir o after
      (l + length (held_list held_value x.entries)) g)
      → RowsWalk a xs cs run at dir₀ o₀ ends n (i + 1) g.past after g.next
  unfolding row_slots row_hits
  row_next {l} {after} {g} far f =
      walk_next w row_one (λ x ys. refl) (λ x. hits (in_row x.operator) (value_at x.key cs) x.entries)
      (λ x ys. refl) t after g (λ x m. lists_ending (row_ends x m far) (f x m))

-- the operator as the code has it
pub row_as :
    {run at : List ℕ} {dir after : List Note} {k o : Operator} {d e : ℕ}
    {g : Noted} (a : Effect) (f : Found) (ys : List Value) → k ≡ o → ListsTo run at (slots_at a (in_row k) ys) (hits (in_row k) f ys) dir d after e g
    → ListsTo run at (slots_at a (in_row o) ys) (hits (in_row o) f ys) dir d after e g
row_as {run} {at} {dir} {after} {d = d} {e = e} {g = g} a f ys i x =
    subst (λ (k : Operator). ListsTo run at (slots_at a (in_row k) ys) (hits (in_row k) f ys) dir d after e g) i x

-- whichever rows lie there, and those that do
abbrev pub RowsWalks :
    (effect : ℕ) (run : List ℕ) (p : ℕ) (at : List ℕ) (v : Option ℕ) (dir₀ : List Note) (o₀ n i e : ℕ)
    (dir : List Note) (o : ℕ)
    → Type 0
RowsWalks effect run p at v dir₀ o₀ n i e dir o =
    (a : Effect) (xs : List Row) (cs : List Context) → effect ≡ effect_number a → Lies run p (held_list held_row xs)
    → Asked at v cs → RowsWalk a xs cs run at dir₀ o₀ (p + 1 + length (held_each held_row xs)) n i e dir o

module _ {effect : ℕ} {run : List ℕ} {p : ℕ} {at : List ℕ} {v : Option ℕ} {dir₀ : List Note} {o₀ n i e : ℕ}
    {dir : List Note} {o : ℕ}
    (w : RowsWalks effect run p at v dir₀ o₀ n i e dir o)
    (y : (Effecting effect) × (Listable (held_list held_row) row_entries run p dir₀ o₀) × (Asking at v)) where
  rows_here : RowsWalk y.0.effect y.1.thing y.2.context run at dir₀ o₀
      (p + 1 + length (held_each held_row y.1.thing)) n i e dir o
  rows_here = w y.0.effect y.1.thing y.2.context y.0.is y.1.lies y.2.asked

  pub rows_size : length dir ≡ length dir₀
  rows_size = rows_here.lists.size

  pub row_there : i < n → Lying held_row run e
  row_there t = walk_lying rows_here t

  pub row_inside_there : i < n → e < length run
  row_inside_there t = let z = row_there t in row_inside z.thing z.lies

  -- what its entries are noted with
  pub row_noting :
      {l : ℕ} {r : Option ℕ} → i < n → BehindLabel run e l
      → ((x : Row) (cs : List Context) → Lies run e (held_row x) → Asked at v cs → Valued at r (value_at x.key cs))
      → (Effecting effect) × (Listable (held_list held_value) length run l dir o) × (Carried at r)
  row_noting t far f =
      let z = row_room y.0.effect y.1.thing y.2.context rows_here t y.1.room in
      let x = z.thing in (
        y.0,
        record { thing = x.entries; lies = entries_lie x z.lies far; room = z.room },
        record { value = value_at x.key y.2.context; valued = f x y.2.context z.lies y.2.asked },
      )

-- ---- the statements of a policy are walked, with some values to each

module _ (fs : Policy → List Found) (p : Policy) (run at : List ℕ) (dir₀ : List Note) where
  abbrev pub StatementsWalk : (n i e : ℕ) (dir : List Note) (o : ℕ) → Type 0
  StatementsWalk n i e dir o =
      Walk held_statement slots fs run at dir₀ 0 (slots p) (fs p) (1 + length (held_each held_statement p)) n i e dir o

  pub statements_start : Lies run 0 (held p) → StatementsWalk (get_or run 0 0) 0 1 dir₀ 0
  statements_start l = walk_start p (policy_count p l) (policy_lies p l)

module _ (fs : Policy → List Found) (p : Policy) {run at : List ℕ} {dir₀ dir : List Note} {n i e o : ℕ}
    (w : StatementsWalk fs p run at dir₀ n i e dir o) where
  pub statement_room :
      i < n → 0 + entries p ≤ length dir₀ → Listable held_statement statement_entries run e dir o
  unfolding slots
  statement_room t room =
      walk_room w statement_slots (λ x ys. refl) t statement_entries statement_slots_many
      (omega (arith, room, policy_slots_many p))

  pub statement_next :
      (some : Statement → List Found) → ((s : Statement) (ss : Policy) → fs (s ∷ ss) ≡ some s ++ fs ss) → i < n
      → {after : List Note} {g : Noted}
      → ((x : Statement) → Lies run e (held_statement x)
      → ListsTo run at (statement_slots x) (some x) dir o after (e + length (held_statement x)) g)
      → StatementsWalk fs p run at dir₀ n (i + 1) g.past after g.next
  unfolding slots
  statement_next some more t {after} {g} f = walk_next w statement_slots (λ x ys. refl) some more t after g f

  pub statements_end : n ≤ i → fs [] ≡ [] → Lists run at (slots p) (fs p) dir₀ 0 o dir
  unfolding slots
  statements_end t z = (walk_end w t refl z).lists
