-- Condition rows of the written form: under their operators they read back as the rows, in the same order.
--   grouped_rows     the runs of one operator, one after the other, are the rows
--   condition_tree   a condition reads back
--   ValidGroup g     an operator and some rows of it, no two of one key
use mathlib.Core.Path.{◌≡◌, refl, sym, ap, ◌∙◌}
use mathlib.Core.Bool.{Bool, true, false}
use mathlib.Core.List.{List, [], ◌∷◌}
use Prim.Native.Nat.{ℕ}
use native.Mathlib.Omega.{arith}
use Rattle.chars.specs.Base.{pick}
use Rattle.text.specs.Json.{object}
use Rattle.chars.specs.Written.{written_text}
use Rattle.chars.specs.Decoding.{read_of, sequence_of, units_behind, meaning, text_of, equal, same_text}
use Rattle.syntax.specs.Policy.{Operator, StringEquals, StringLike, NumericLessThanEquals, Row}
use Rattle.syntax.specs.Forms.{Reading, read}
use Rattle.syntax.specs.Members.{cons, members, differ}
use Rattle.syntax.specs.PolicyLayout.{value_of, key_of, row_of, same_row, rows_of, operator_of, same_operator, Group}
use Rattle.syntax.specs.PolicyLayout.{same_group, group_of, rows_in, operators_in, condition_of}
use Rattle.writing.specs.WrittenForm.{value_tree, list_of, joining, grouped, rows_tree, operator_word, groups_tree}
use Rattle.writing.specs.Valid.{Each, none, more, Some, first, ValidValue, ValidRow, ValidRows}
use Rattle.writing.proofs.Laws.TreeSpelling.{characters_written}
use Rattle.writing.proofs.Laws.TreeForms.{key_scalars}
use Rattle.writing.proofs.Laws.TreeEntries.{list_tree, value_tree_lem}

-- ---- one run of rows

row_tree_lem : (r : Row) → ValidRow r
    → row_of r.operator (written_text r.key) (list_of (value_tree r.operator) r.entries) ≡ read r
unfolding row_of key_of
row_tree_lem r v =
    let o = r.operator in
    rw (
      characters_written (key_scalars r.key v.key),
      v.key,
      list_tree (value_of o) (value_tree o) (ValidValue o) (value_tree_lem o) v.entries,
    )

-- a row of this operator
pub record InRun (o : Operator) (r : Row) : Type 0 where
  pub operator : r.operator ≡ o
  pub valid : ValidRow r

run_tree : (o : Operator) {rs : List Row} → Each Row (InRun o) rs → members (row_of o) (rows_tree rs) ≡ read rs
unfolding members rows_tree
run_tree o none = refl
run_tree o (more {x = r} {xs = rs} p ps) =
    ap (λ (x : Reading Row). cons x (members (row_of o) (rows_tree rs)))
    (ap (λ (q : Operator). row_of q (written_text r.key) (list_of (value_tree r.operator) r.entries))
    (sym p.operator) ∙ row_tree_lem r p.valid)
    ∙ ap (cons (read r)) (run_tree o ps)

rows_tree_lem : (o : Operator) {rs : List Row} → Some Row (InRun o) rs → differ same_row rs ≡ true
    → rows_of o (object (rows_tree rs)) ≡ read rs
unfolding rows_of rows_tree
rows_tree_lem o (first p ps) e = rw (run_tree o (more p ps), e)

-- ---- groups

pub operator_tree : (o : Operator) → operator_of (operator_word o) ≡ read o
unfolding operator_of same_text text_of meaning units_behind read_of sequence_of equal
operator_tree StringEquals = refl
operator_tree StringLike = refl
operator_tree NumericLessThanEquals = refl

-- an operator and some rows of it
abbrev pub Runs : Group → Type 0
Runs g = Some Row (InRun g.operator) g.rows

pub record ValidGroup (g : Group) : Type 0 where
  pub runs : Runs g
  pub apart : differ same_row g.rows ≡ true

group_tree : (g : Group) → ValidGroup g
    → group_of (operator_word g.operator) (object (rows_tree g.rows)) ≡ read g
unfolding group_of
group_tree g v = rw (operator_tree g.operator, rows_tree_lem g.operator v.runs v.apart)

groups_tree_lem : {gs : List Group} → Each Group ValidGroup gs → members group_of (groups_tree gs) ≡ read gs
unfolding members groups_tree
groups_tree_lem none = refl
groups_tree_lem (more {x = g} {xs = gs} p ps) =
    ap (λ (x : Reading Group). cons x (members group_of (groups_tree gs))) (group_tree g p)
    ∙ ap (cons (read g)) (groups_tree_lem ps)

some_tree : {gs : List Group} → Some Group ValidGroup gs → differ same_group gs ≡ true
    → condition_of (object (groups_tree gs)) ≡ read (rows_in gs)
unfolding condition_of operators_in groups_tree
some_tree (first p ps) e = rw (groups_tree_lem (more p ps), e)

-- ---- the runs of rows

joining_rows : (r : Row) (gs : List Group) → rows_in (joining r gs) ≡ r ∷ rows_in gs
unfolding rows_in
joining_rows r [] = refl
joining_rows r (g ∷ gs) = by (same_operator r.operator g.operator)
  where
    by : (b : Bool)
        → rows_in (pick b (record { operator = g.operator; rows = r ∷ g.rows } ∷ gs)
        (record { operator = r.operator; rows = r ∷ [] } ∷ g ∷ gs)) ≡ r ∷ rows_in (g ∷ gs)
    by true = refl
    by false = refl

pub grouped_rows : (rs : List Row) → rows_in (grouped rs) ≡ rs
unfolding rows_in grouped
grouped_rows [] = refl
grouped_rows (r ∷ rs) = joining_rows r (grouped rs) ∙ ap (λ (l : List Row). r ∷ l) (grouped_rows rs)

apart : true ≡ false → ⊥
apart e = let z : ◌≡◌ {A = ℕ} 0 1 = cc in omega arith

pub operator_same : (o p : Operator) → same_operator o p ≡ true → o ≡ p
operator_same StringEquals StringEquals e = refl
operator_same StringEquals StringLike e = absurd (apart (sym e))
operator_same StringEquals NumericLessThanEquals e = absurd (apart (sym e))
operator_same StringLike StringEquals e = absurd (apart (sym e))
operator_same StringLike StringLike e = refl
operator_same StringLike NumericLessThanEquals e = absurd (apart (sym e))
operator_same NumericLessThanEquals StringEquals e = absurd (apart (sym e))
operator_same NumericLessThanEquals StringLike e = absurd (apart (sym e))
operator_same NumericLessThanEquals NumericLessThanEquals e = refl

pub each_some : {A : Type 0} {P : A → Type 0} {xs : List A} → Some A P xs → Each A P xs
each_some (first p ps) = more p ps

alone : (r : Row) → ValidRow r → Some Row (InRun r.operator) (r ∷ [])
alone r v = first (record { operator = refl; valid = v }) none

joining_valid : (r : Row) {gs : List Group} → ValidRow r → Each Group Runs gs → Some Group Runs (joining r gs)
joining_valid r v none = first (alone r v) none
joining_valid r v (more {x = g} {xs = gs} p ps) = by (same_operator r.operator g.operator) refl
  where
    by : (b : Bool) → same_operator r.operator g.operator ≡ b
        → Some Group Runs (pick b (record { operator = g.operator; rows = r ∷ g.rows } ∷ gs)
        (record { operator = r.operator; rows = r ∷ [] } ∷ g ∷ gs))
    by true e =
        first (first (record { operator = operator_same r.operator g.operator e; valid = v }) (each_some p)) ps
    by false e = first (alone r v) (more p ps)

grouped_valid : {rs : List Row} → Each Row ValidRow rs → Each Group Runs (grouped rs)
unfolding grouped
grouped_valid none = none
grouped_valid (more {x = r} v vs) = each_some (joining_valid r v (grouped_valid vs))

-- ---- conditions

each_groups : {gs : List Group} → Each Group Runs gs → Each Group (λ g. differ same_row g.rows ≡ true) gs
    → Each Group ValidGroup gs
each_groups none none = none
each_groups (more p ps) (more e es) = more (record { runs = p; apart = e }) (each_groups ps es)

some_groups : {gs : List Group} → Some Group Runs gs → Each Group (λ g. differ same_row g.rows ≡ true) gs
    → Some Group ValidGroup gs
some_groups (first p ps) (more e es) = first (record { runs = p; apart = e }) (each_groups ps es)

some_runs : {r : Row} {rs : List Row} → Each Row ValidRow (r ∷ rs) → Some Group Runs (grouped (r ∷ rs))
unfolding grouped
some_runs {r = r} (more v vs) = joining_valid r v (grouped_valid vs)

pub condition_tree : {r : Row} {rs : List Row} → ValidRows (r ∷ rs)
    → condition_of (object (groups_tree (grouped (r ∷ rs)))) ≡ read (r ∷ rs)
condition_tree {r} {rs} v =
    some_tree (some_groups (some_runs v.each) v.keys) v.operators ∙ ap read (grouped_rows (r ∷ rs))
