-- What is read of a value needs no more numbers when it is held than its cost: conditions, statements and policies.
--   rows_fits, group_fits, condition_fits   rows as their members
--   statement_fits   the members share the object's cost: Effect's pays for those that are absent
--   policy_fits      Version's is left over
--   held_fits        a policy of a text within its limit is held in a run within its own
use mathlib.Core.Path.{◌≡◌, refl, ap, ◌∙◌}
use mathlib.Core.Bool.{Bool, true, false}
use mathlib.Core.List.{List, [], ◌∷◌, ◌++◌}
use Prim.Native.Nat.{ℕ, ◌+◌, ◌≤◌}
use native.Mathlib.Omega.{arith}
use lib.ListN.{length, length-append}
use Rattle.text.specs.Json.{Json, null, bool, number, string, list, object, Members, no_members, named}
use Rattle.chars.specs.Decoding.{text_of}
use Rattle.text.specs.Contents.{Stands}
use Rattle.chars.proofs.Laws.Strings.Lengths.{chars_few}
use Rattle.syntax.specs.Policy.{Operator, Row, Statement, Policy}
use Rattle.syntax.specs.Forms.{Reading, read}
use Rattle.syntax.specs.Words.{version_word, statement_word, edition_word, sid_word, effect_word, action_word}
use Rattle.syntax.specs.Words.{resource_word, condition_word}
use Rattle.syntax.specs.Members.{then, only, is_word, Slot, none, many, one, slot, known, required, optional}
use Rattle.syntax.specs.Members.{one_or_more, members, differ, differing}
use Rattle.syntax.specs.PolicyLayout.{action_of, resource_of, row_of, same_row, rows_of, operator_of, Group, same_group}
use Rattle.syntax.specs.PolicyLayout.{group_of, rows_in, operators_in, condition_of, effect_of, sid_of, statement_in}
use Rattle.syntax.specs.PolicyLayout.{statement_of, same_sid, policy_in, policy_of}
use Rattle.held.specs.Held.{held_text, held_each, held_list, held_row, held_statement, held}
use Rattle.parts.specs.Room.{cost, costm}
use Rattle.parts.specs.declared.members.Layout.TheVariants as L
use Rattle.parts.proofs.Laws.Slots.{same_chars}
use Rattle.parts.proofs.Laws.Room.{cost_within, cost_some, slot_cost, slots_cost, layout_room}
use Rattle.parts.proofs.Laws.Holding.{never}
use Rattle.parts.proofs.Laws.Sofar.{held_append}
use Rattle.parts.proofs.Laws.Fits.{wrong_read, then_inv, only_inv, pick_inv, members_fits, parts_fit}
use Rattle.parts.proofs.Laws.Fits.{row_fits_lem, action_fits, resource_fits, sid_fits}
use Rattle.parts.proofs.Laws.ReadParts.{parts_inv}

-- ---- conditions

pub rows_room : (o : Operator) (t : Json) (rs : List Row) → rows_of o t ≡ read rs
    → length (held_each held_row rs) + 2 ≤ cost t
unfolding rows_of cost
rows_room o null rs e = wrong_read e
rows_room o (bool b) rs e = wrong_read e
rows_room o (number w) rs e = wrong_read e
rows_room o (string w) rs e = wrong_read e
rows_room o (list ts) rs e = wrong_read e
rows_room o (object no_members) rs e = wrong_read e
rows_room o (object (named w t ms)) rs e =
    let p = then_inv (members (row_of o) (named w t ms)) (differing same_row) e in
    let q = only_inv (differ same_row p.thing) p.next in
    omega (
      arith,
      ap (λ (l : List Row). length (held_each held_row l)) q,
      members_fits held_row (row_of o) (row_fits_lem o) (named w t ms) p.thing p.said,
    )

pub rows_fits : (o : Operator) (t : Json) (rs : List Row) → rows_of o t ≡ read rs
    → length (held_each held_row rs) ≤ cost t
rows_fits o t rs e = omega (arith, rows_room o t rs e)

-- a group as its rows
abbrev held_group : Group → List ℕ
held_group g = held_each held_row g.rows

pub group_fits : (w : List ℕ) (t : Json) (g : Group) → group_of w t ≡ read g
    → length (held_each held_row g.rows) ≤ length w + 3 + cost t
unfolding group_of
group_fits w t g e =
    let p = then_inv (operator_of w) (λ o. then (rows_of o t) (λ rs. read (record { operator = o; rows = rs }))) e in
    let q = then_inv (rows_of p.thing t) (λ rs. read (record { operator = p.thing; rows = rs })) p.next in
    let z : record { operator = p.thing; rows = q.thing } ≡ g = cc in
    omega (
      arith,
      ap (λ (x : Group). length (held_group x)) z,
      rows_room p.thing t q.thing q.said,
    )

groups_held : (gs : List Group) → held_each held_row (rows_in gs) ≡ held_each held_group gs
unfolding held_each rows_in
groups_held [] = refl
groups_held (g ∷ gs) =
    held_append held_row g.rows (rows_in gs) ∙ ap (λ (l : List ℕ). held_group g ++ l) (groups_held gs)

pub condition_fits : (t : Json) (rs : List Row) → condition_of t ≡ read rs → length (held_list held_row rs) ≤ cost t
unfolding condition_of operators_in cost
condition_fits null rs e = wrong_read e
condition_fits (bool b) rs e = wrong_read e
condition_fits (number w) rs e = wrong_read e
condition_fits (string w) rs e = wrong_read e
condition_fits (list ts) rs e = wrong_read e
condition_fits (object no_members) rs e = wrong_read e
condition_fits (object (named w t ms)) rs e =
    let p = then_inv (members group_of (named w t ms)) (λ gs. only (differ same_group gs) (rows_in gs)) e in
    let q = only_inv (differ same_group p.thing) p.next in
    omega (
      arith,
      ap (λ (l : List Row). length (held_each held_row l)) q,
      ap length (groups_held p.thing),
      members_fits held_group group_of group_fits (named w t ms) p.thing p.said,
    )

-- ---- members by their words

-- a thing of some size, read of the member of a word
module _ {A : Type 0} (size : A → ℕ) (f : Json → Reading A)
    (fits : (t : Json) (x : A) → f t ≡ read x → size x ≤ cost t) (n : List ℕ) where
  pub required_fits : (s : Slot) (x : A) → required f s ≡ read x → length n + 3 + size x ≤ slot_cost n s
  required_fits none x e = wrong_read e
  required_fits many x e = wrong_read e
  required_fits (one t) x e = omega (arith, fits t x e)

  pub optional_fits : (d : A) → size d ≡ 0 → (s : Slot) (x : A) → optional d f s ≡ read x → size x ≤ slot_cost n s
  optional_fits d z none x e = let y : d ≡ x = cc in omega (arith, ap size y)
  optional_fits d z many x e = wrong_read e
  optional_fits d z (one t) x e = omega (arith, fits t x e)

-- ---- statements

pub statement_length : (x : Statement) → length (held_statement x)
    ≡ 5 + length x.sid + length (held_each held_text x.actions) + length (held_each held_text x.resources)
    + length (held_each held_row x.rows)
unfolding held_statement
statement_length x = simp length-append (omega arith)

statement_room : (ms : Members) (x : Statement) → statement_in ms ≡ read x → length (held_statement x) ≤ costm ms
unfolding statement_in slots_cost held_each
statement_room ms x h =
    let p = parts_inv (optional [] sid_of (slot sid_word ms)) (required effect_of (slot effect_word ms))
    (required (one_or_more action_of) (slot action_word ms)) (required (one_or_more resource_of) (slot resource_word ms))
    (optional [] condition_of (slot condition_word ms)) h in
    omega (
      arith,
      statement_length x,
      layout_room L.Statement ms,
      optional_fits length sid_of (λ t cs e. omega (arith, sid_fits t cs e)) sid_word [] refl (slot sid_word ms) x.sid
          p.sid_is,
      required_fits (λ e. 1) effect_of (λ t e h. cost_some t) effect_word (slot effect_word ms) x.effect p.effect_is,
      required_fits (λ xs. length (held_each held_text xs)) (one_or_more action_of) (parts_fit held_text action_of action_fits)
          action_word (slot action_word ms) x.actions p.actions_are,
      required_fits (λ xs. length (held_each held_text xs)) (one_or_more resource_of)
          (parts_fit held_text resource_of resource_fits) resource_word (slot resource_word ms) x.resources
          p.resources_are,
      optional_fits (λ rs. length (held_each held_row rs)) condition_of
          (λ t rs e. omega (arith, condition_fits t rs e)) condition_word [] refl (slot condition_word ms) x.rows
          p.rows_are,
    )

pub statement_fits : (t : Json) (x : Statement) → statement_of t ≡ read x → length (held_statement x) ≤ cost t
unfolding statement_of cost
statement_fits null x e = wrong_read e
statement_fits (bool b) x e = wrong_read e
statement_fits (number w) x e = wrong_read e
statement_fits (string w) x e = wrong_read e
statement_fits (list ts) x e = wrong_read e
statement_fits (object ms) x e =
    let known_words = known (sid_word ∷ effect_word ∷ action_word ∷ resource_word ∷ condition_word ∷ []) ms in
    omega (arith, statement_room ms x (pick_inv known_words e))

-- ---- policies

pub word_fits : (n : List ℕ) (t : Json) → is_word n t ≡ true → length n + 3 ≤ cost t
unfolding is_word cost
word_fits n null e = never e
word_fits n (bool b) e = never e
word_fits n (number w) e = never e
word_fits n (string w) e = omega (arith, chars_few w, ap length (same_chars (text_of w) n e))
word_fits n (list ts) e = never e
word_fits n (object ms) e = never e

version_fits : (t u : Json) → only (is_word edition_word t) t ≡ read u → 13 ≤ cost t
version_fits t u e = by (is_word edition_word t) refl e
  where
    by : (b : Bool) → is_word edition_word t ≡ b → only b t ≡ read u → 13 ≤ cost t
    by true h e = word_fits edition_word t h
    by false h e = wrong_read e

policy_room : (ms : Members) (p : Policy) → policy_in ms ≡ read p → length (held p) + 34 ≤ costm ms
unfolding policy_in slots_cost held
policy_room ms p e =
    let v = then_inv (required (λ t. only (is_word edition_word t) t) (slot version_word ms))
    (λ v. then (required (one_or_more statement_of) (slot statement_word ms)) (λ p. differing same_sid p)) e in
    let q = then_inv (required (one_or_more statement_of) (slot statement_word ms)) (λ p. differing same_sid p) v.next in
    let z = only_inv (differ same_sid q.thing) q.next in
    omega (
      arith,
      ap (λ (l : Policy). length (held_each held_statement l)) z,
      layout_room L.Policy ms,
      required_fits (λ u. 13) (λ t. only (is_word edition_word t) t) version_fits version_word (slot version_word ms)
          v.thing v.said,
      required_fits (λ l. length (held_each held_statement l)) (one_or_more statement_of)
          (parts_fit held_statement statement_of statement_fits) statement_word (slot statement_word ms) q.thing
          q.said,
    )

pub policy_fits : (t : Json) (p : Policy) → policy_of t ≡ read p → length (held p) + 36 ≤ cost t
unfolding policy_of cost
policy_fits null p e = wrong_read e
policy_fits (bool b) p e = wrong_read e
policy_fits (number w) p e = wrong_read e
policy_fits (string w) p e = wrong_read e
policy_fits (list ts) p e = wrong_read e
policy_fits (object ms) p e =
    omega (arith, policy_room ms p (pick_inv (known (version_word ∷ statement_word ∷ []) ms) e))

pub held_fits :
    {s : List ℕ} {t : Json} {v e : ℕ} (p : Policy) → Stands s t v e → e ≤ length s → length s ≤ 16384
    → policy_of t ≡ read p → length (held p) ≤ 16384
held_fits {s} {t} {v} {e} p h i j k = omega (arith, cost_within h, policy_fits t p k)
