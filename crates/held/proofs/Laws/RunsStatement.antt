-- A statement in a run: its lists lie one behind the other, and a list of texts is passed as a list of values.
use mathlib.Core.Path.{◌≡◌, refl, sym, ap, ◌∙◌, subst}
use mathlib.Core.Bool.{Bool, false, ◌||◌}
use mathlib.Core.List.{List, [], ◌∷◌, ◌++◌, map}
use Prim.Native.Nat.{ℕ, ◌+◌, ◌≤◌, ◌<◌}
use native.Mathlib.Omega.{arith}
use lib.Dec.{ltb}
use lib.ListN.{length, get_or, length-append, length-map}
use borrow.Author.Tests.{lt-ltb, le-ltb}
use Rattle.syntax.specs.Forms.{both, same}
use Rattle.syntax.specs.Limits.{run_numbers, most_statements, most_entries}
use Rattle.syntax.specs.Policy.{Value, text, Row, Statement, Policy}
use Rattle.syntax.specs.PolicyLayout.{same_sid}
use Rattle.held.specs.Held.{held_text, held_each, held_value, held_list, held_row, held_statement, held}
use Rattle.held.specs.Held.{any_of, long_text, long_value, rows_over, row_entries, statement_over, statement_entries}
use Rattle.held.specs.Held.{entries, over_limit}
use Rattle.held.specs.Lying.{Lies, Lying, Passes}
use Rattle.held.specs.declared.runs.Seen.{Seen}
use Rattle.held.proofs.Laws.Runs.{lies_front, lies_back, lies_short, list_long, Named, named, named_past}
use Rattle.held.proofs.Laws.Runs.{lies_inside, lies_first, lies_next, or_either, row_long}
use Rattle.held.proofs.Laws.RunsWalk.{total_short}

-- ---- texts are values

texts_held : (xs : List (List ℕ)) → held_each held_text xs ≡ held_each held_value (map text xs)
unfolding held_each
texts_held [] = refl
texts_held (x ∷ xs) = ap (λ (l : List ℕ). held_text x ++ l) (texts_held xs)

texts_long : (xs : List (List ℕ)) → any_of long_text xs ≡ any_of long_value (map text xs)
unfolding any_of
texts_long [] = refl
texts_long (x ∷ xs) = rw (texts_long xs)

pub texts_list : (xs : List (List ℕ)) → held_list held_text xs ≡ held_list held_value (map text xs)
texts_list xs =
    ap (λ (n : ℕ). n ∷ held_each held_text xs) (sym (length-map xs text))
    ∙ ap (λ (l : List ℕ). length (map text xs) ∷ l) (texts_held xs)

-- what a walk over a list told, and one over rows
abbrev pub ListPassed : List ℕ → ℕ → Seen → Type 0
ListPassed run p r =
    (xs : List Value) → Lies run p (held_list held_value xs)
    → Passes p (held_list held_value xs) (length xs) (any_of long_value xs) r

abbrev pub RowsPassed : List ℕ → ℕ → Seen → Type 0
RowsPassed run p r =
    (xs : List Row) → Lies run p (held_list held_row xs) → Passes p (held_list held_row xs) (row_entries xs) (rows_over xs) r

module _ {run : List ℕ} {p : ℕ} (xs : List (List ℕ)) (l : Lies run p (held_list held_text xs)) where
  texts_lie : Lies run p (held_list held_value (map text xs))
  texts_lie = subst (Lies run p) (texts_list xs) l

  texts_pass : {r : Seen} → ListPassed run p r → Passes p (held_list held_text xs) (length xs) (any_of long_text xs) r
  texts_pass s =
      let q = s (map text xs) texts_lie in
      record {
        past = q.past ∙ ap (λ (zs : List ℕ). p + length zs) (sym (texts_list xs));
        many = q.many ∙ length-map xs text;
        limit = q.limit ∙ sym (texts_long xs);
      }

-- ---- the statement

module _ (x : Statement) where
  abbrev actions : List ℕ
  actions = held_list held_text x.actions

  abbrev resources : List ℕ
  resources = held_list held_text x.resources

  abbrev rows : List ℕ
  rows = held_list held_row x.rows

  texts_many : (xs : List (List ℕ)) → length xs ≤ length (held_each held_text xs)
  texts_many = list_long held_text (λ cs. omega arith)

  pub statement_long : statement_entries x ≤ length (held_statement x)
  unfolding held_statement statement_entries
  statement_long =
      omega (
        arith,
        texts_many x.actions,
        texts_many x.resources,
        total_short held_row (λ r. length r.entries) row_long x.rows,
        length-append x.sid (actions ++ (resources ++ rows)),
        length-append actions (resources ++ rows),
        length-append resources rows,
      )

module _ {run : List ℕ} {p : ℕ} (x : Statement) (l : Lies run p (held_statement x)) where
  pub statement_named : Named run p x.sid (actions x ++ (resources x ++ rows x))
  unfolding held_statement
  statement_named = named x.sid (actions x ++ (resources x ++ rows x)) l

  abbrev from : ℕ
  from = p + 2 + get_or run (p + 1) 0

  actions_lie : Lies run from (actions x)
  actions_lie = lies_front (actions x) (resources x ++ rows x) statement_named.rest

  pub actions_lying : Lying (held_list held_value) run from
  actions_lying = record { thing = map text x.actions; lies = texts_lie x.actions actions_lie }

  module _ {a : Seen} (at_a : ListPassed run from a) where
    actions_pass : Passes from (actions x) (length x.actions) (any_of long_text x.actions) a
    actions_pass = texts_pass x.actions actions_lie at_a

    behind_actions_lem : Lies run a.past (resources x ++ rows x)
    behind_actions_lem =
        subst (λ (q : ℕ). Lies run q (resources x ++ rows x)) (sym actions_pass.past)
        (lies_back (actions x) (resources x ++ rows x) statement_named.rest)

    resources_lie : Lies run a.past (resources x)
    resources_lie = lies_front (resources x) (rows x) behind_actions_lem

    pub resources_lying : Lying (held_list held_value) run a.past
    resources_lying = record { thing = map text x.resources; lies = texts_lie x.resources resources_lie }

    module _ {b : Seen} (at_b : ListPassed run a.past b) where
      resources_pass : Passes a.past (resources x) (length x.resources) (any_of long_text x.resources) b
      resources_pass = texts_pass x.resources resources_lie at_b

      rows_lie : Lies run b.past (rows x)
      rows_lie =
          subst (λ (q : ℕ). Lies run q (rows x)) (sym resources_pass.past)
          (lies_back (resources x) (rows x) behind_actions_lem)

      pub rows_lying : Lying (held_list held_row) run b.past
      rows_lying = record { thing = x.rows; lies = rows_lie }

      module _ {c : Seen} (at_c : RowsPassed run b.past c) where
        abbrev seen : Seen
        seen =
            record {
              past = c.past;
              entries = a.entries + b.entries + c.entries;
              over = c.over || (a.over || b.over);
            }

        pub statement_passes : Passes p (held_statement x) (statement_entries x) (statement_over x) seen
        unfolding held_statement statement_entries statement_over
        statement_passes =
            let q = at_c x.rows rows_lie in
            record {
              past = named_past statement_named
                  (omega (
                    arith,
                    actions_pass.past,
                    resources_pass.past,
                    q.past,
                    length-append (actions x) (resources x ++ rows x),
                    length-append (resources x) (rows x),
                  ));
              many = omega (arith, actions_pass.many, resources_pass.many, q.many);
              limit = or_either q.limit (or_either actions_pass.limit resources_pass.limit);
            }

        pub statement_few : a.entries + b.entries + c.entries ≤ run_numbers
        statement_few = omega (arith, statement_passes.many, statement_long x, lies_short l)

-- ---- Sids

pub sid_none : (x y : Statement) → length x.sid ≡ 0 → false ≡ same_sid x y
sid_none x y e = sym (ap (λ (b : Bool). both b (same x.sid y.sid)) (le-ltb 0 (length x.sid) (omega arith)))

pub sid_some : (x y : Statement) → 0 < length x.sid → same x.sid y.sid ≡ same_sid x y
sid_some x y h = sym (ap (λ (b : Bool). both b (same x.sid y.sid)) (lt-ltb 0 (length x.sid) h))

-- ---- the policy

module _ {run : List ℕ} (x : Policy) (l : Lies run 0 (held x)) where
  listed : Lies run 0 (held_list held_statement x)
  unfolding held
  listed = l

  pub policy_inside : 0 < length run
  policy_inside = lies_inside listed

  pub policy_count : get_or run 0 0 ≡ length x
  policy_count = lies_first listed

  pub policy_lies : Lies run 1 (held_each held_statement x)
  policy_lies = lies_next listed

pub policy_over :
    (x : Policy) {n e : ℕ} {o : Bool} → n ≡ length x → e ≡ entries x → o ≡ any_of statement_over x
    → (ltb most_statements n || (ltb most_entries e || o)) ≡ over_limit x
unfolding over_limit
policy_over x a b c = or_either (ap (ltb most_statements) a) (or_either (ap (ltb most_entries) b) c)
