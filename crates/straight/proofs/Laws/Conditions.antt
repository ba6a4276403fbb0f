-- Conditions in one walk: an operator with its rows, and the operators one behind the other, none of them twice.
--   Rising ..   operators passed so far: their rows counted, the operators marked
use mathlib.Core.Path.{◌≡◌, refl, sym, ap, ◌∙◌, subst}
use mathlib.Core.Bool.{Bool, true, false}
use mathlib.Core.List.{List, [], ◌∷◌, ◌++◌}
use Prim.Native.Nat.{ℕ, ◌+◌, ◌-◌, ◌≤◌, ◌<◌}
use native.Mathlib.Omega.{arith}
use lib.ListN.{length, get_or, set, replicate, length-append}
use Rattle.chars.specs.Decoding.{sequence_of, read_of, units_behind, meaning, text_of, equal, same_text}
use Rattle.text.specs.Json.{object, Members, no_members, named}
use Rattle.syntax.specs.Policy.{Operator, StringEquals, StringLike, NumericLessThanEquals}
use Rattle.syntax.specs.Forms.{read}
use Rattle.syntax.specs.Members.{only, has_like, differ}
use Rattle.syntax.specs.Members as S
use Rattle.syntax.specs.PolicyLayout.{rows_of, operator_of, Group, same_group, group_of, rows_in, operators_in}
use Rattle.syntax.specs.PolicyLayout.{condition_of}
use Rattle.held.specs.Held.{held_each, held_row, operator_number}
use Rattle.parts.specs.Room.{Roomy}
use Rattle.parts.specs.Spoken.{operator_is}
use Rattle.parts.specs.Holding.{Extends}
use Rattle.parts.proofs.Laws.Differ.{same_group_symmetric}
use Rattle.parts.proofs.Laws.Formed.{then_read}
use Rattle.parts.proofs.Laws.Sofar.{held_append}
use Rattle.straight.specs.declared.rows.Operated.{Operated}
use Rattle.std.specs.Prelude.{Option, Some}
use Rattle.straight.specs.Marks.{Opened, Closed, Parted, Named}
use Rattle.straight.specs.Taking.{TakenSeveral, TakenMember}
use Rattle.straight.specs.Operators.{word_of, NamesOperator}
use Rattle.straight.proofs.Laws.Reads.{reads_inside, reads_later, named_later, member_is}
use Rattle.straight.proofs.Laws.Going.{Passed, going_end, going_size, going_less, going_extends}
use Rattle.straight.proofs.Laws.Seen.{Seen, seen_none, seen_more}
use Rattle.straight.proofs.Laws.Lists.{members_of, member_passed}
use Rattle.straight.proofs.Laws.Differing.{Kind, Differing, grown, differing_start, differing_roomy}
use Rattle.straight.proofs.Laws.Differing.{differing_still, differing_more}

-- ---- an operator and its rows

pub names_by : (s : List ℕ) (i : ℕ) {r : Option Operated} {y : Operated} → NamesOperator s i r → r ≡ Some y
    → Named s (word_of (operator_is y.operator)) i y.value
names_by s i t e = subst (NamesOperator s i) e t

operator_said : (o : Operator) → operator_of (word_of o) ≡ read o
unfolding operator_of same_text text_of meaning units_behind read_of sequence_of equal
operator_said StringEquals = refl
operator_said StringLike = refl
operator_said NumericLessThanEquals = refl

abbrev pub held_group : Group → List ℕ
held_group g = held_each held_row g.rows

group_taken : (o : Operator) {s run run₁ : List ℕ} {i v at p e n : ℕ} → Named s (word_of o) i v
    → TakenSeveral held_row (rows_of o) 2 s run run₁ v at p e n → TakenMember held_group group_of 2 s run run₁ i at p e
unfolding group_of
group_taken o n t =
    record {
      raw = word_of o;
      tree = t.tree;
      reads = λ ms z r. member_is n t.reads r;
      later = omega (arith, named_later n, reads_later t.reads);
      inside = reads_inside t.reads;
      shallow = t.shallow;
      laid = record {
        thing = record { operator = o; rows = t.gathered.things };
        said = then_read _ (operator_said o) ∙ then_read _ t.gathered.said;
        extends = t.gathered.extends;
      };
    }

-- ---- the rows of several operators

rows_held : (gs : List Group) → held_each held_group gs ≡ held_each held_row (rows_in gs)
unfolding held_each rows_in
rows_held [] = refl
rows_held (g ∷ gs) =
    ap (λ (l : List ℕ). held_each held_row g.rows ++ l) (rows_held gs)
    ∙ sym (held_append held_row g.rows (rows_in gs))

rows_many : (gs : List Group) (g : Group) → length (rows_in (gs ++ (g ∷ []))) ≡ length (rows_in gs) + length g.rows
unfolding rows_in
rows_many [] g = omega (arith, length-append g.rows [])
rows_many (x ∷ gs) g =
    omega (
      arith,
      length-append x.rows (rows_in (gs ++ (g ∷ []))),
      length-append x.rows (rows_in gs),
      rows_many gs g,
    )

condition_said : (us : Members) (gs : List Group) → (us ≡ no_members → ⊥) → S.members group_of us ≡ read gs
    → differ same_group gs ≡ true → condition_of (object us) ≡ read (rows_in gs)
unfolding condition_of operators_in
condition_said no_members gs n q y = absurd (n refl)
condition_said (named w t ms) gs n q y = then_read _ q ∙ ap (λ (b : Bool). only b (rows_in gs)) y

abbrev pub operators : Kind Members Group
operators = record { frame = members_of held_group group_of 2; alike = same_group; symmetric = same_group_symmetric }

pub record Rising (s : List ℕ) (v : ℕ) (run₀ : List ℕ) (at i : ℕ) (run : List ℕ) (p n : ℕ) (marks : List Bool) : Type 0 where
  pub many : ℕ
  pub groups : Differing operators s v run₀ at i run p many
  pub count : n ≡ length (rows_in groups.things)
  pub few : n ≤ 16384
  pub seen : Seen marks groups.things

pub rising_start : {s run : List ℕ} {v at i : ℕ} → Roomy run at 0 → Opened s 123 v i → Rising s v run at i run at 0 (replicate 4 false)
unfolding rows_in differing_start
rising_start {s} r o =
    record {
      many = 0;
      groups = differing_start operators r o;
      count = refl;
      few = omega arith;
      seen = seen_none;
    }

module _ {s run₀ run : List ℕ} {v at i p n : ℕ} {marks : List Bool} (g : Rising s v run₀ at i run p n marks) where
  pub rising_roomy : Roomy run p 0
  rising_roomy = differing_roomy operators g.groups

  module _ (o : Operator) {run₁ : List ℕ} {w q e k : ℕ} (m : Named s (word_of o) i w)
      (t : TakenSeveral held_row (rows_of o) 2 s run run₁ w p q e k) where
    group : Passed operators.frame s run run₁ i p q e
    group = member_passed held_group group_of 2 (group_taken o m t)

    pub rising_size : length run₁ ≡ length run₀
    rising_size = going_size operators.frame s g.groups.going group

    pub rising_less : {c : ℕ} → Parted s 44 e c → length s - c < length s - i
    rising_less = going_less operators.frame s g.groups.going group

    rising_count : n + k ≡ length (rows_in (grown operators g.groups group))
    unfolding group group_taken member_passed
    rising_count = omega (arith, g.count, t.gathered.count, rows_many g.groups.things group.thing)

    module _ {number : ℕ} (is : number ≡ operator_number o) (clear : get_or marks number false ≡ false) where
      new_operator : has_like same_group group.thing g.groups.things ≡ false
      unfolding group group_taken member_passed
      new_operator = g.seen.clear group.thing (ap (λ (j : ℕ). get_or marks j false) (sym is) ∙ clear)

      pub rising_more : {c : ℕ} → n + k ≤ 16384 → Parted s 44 e c → Rising s v run₀ at c run₁ q (n + k) (set marks number true)
      unfolding group group_taken member_passed differing_more
      rising_more few c =
          record {
            many = g.many + 1;
            groups = differing_more operators g.groups group new_operator c;
            count = rising_count;
            few = few;
            seen = seen_more group.thing number is g.seen;
          }

      pub rising_end : {z : ℕ} → Closed s 125 e z → TakenSeveral held_row condition_of 3 s run₀ run₁ v at q z (n + k)
      rising_end c =
          let w = going_end operators.frame s g.groups.going group c in
          let gs = grown operators g.groups group in
          record {
            tree = object w.all;
            reads = w.reads;
            shallow = w.shallow;
            gathered = record {
              things = rows_in gs;
              said = condition_said w.all gs w.some_are w.said
                  (differing_still operators g.groups group new_operator);
              count = rising_count;
              extends = subst (λ (l : List ℕ). Extends run₀ run₁ at l q) (rows_held gs)
                  (going_extends operators.frame s g.groups.going group);
            };
          }
