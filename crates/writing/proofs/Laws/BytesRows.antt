-- The rows of a statement, put one behind the other, are the bytes of their groups.
use mathlib.Core.Path.{◌≡◌, refl, sym, ap, ◌∙◌}
use mathlib.Core.Bool.{Bool, true, false}
use mathlib.Core.List.{List, [], ◌∷◌, ◌++◌, append_assoc}
use Prim.Native.Nat.{ℕ}
use lib.Dec.{eqb}
use Rattle.chars.specs.Base.{pick}
use Rattle.text.specs.Json.{Json}
use Rattle.chars.specs.Written.{written_text}
use Rattle.text.specs.Printing.{quoted, printed, printed_members, printed_more}
use Rattle.syntax.specs.Policy.{Operator, StringEquals, StringLike, NumericLessThanEquals, Row}
use Rattle.held.specs.Held.{operator_number}
use Rattle.syntax.specs.Words.{condition_word}
use Rattle.syntax.specs.PolicyLayout.{same_operator, Group}
use Rattle.writing.specs.WrittenForm.{list_of, value_tree, joining, grouped, rows_tree, operator_word, groups_tree}
use Rattle.writing.specs.WrittenForm.{condition_member}
use Rattle.writing.specs.Bytes.{name, list_bytes, operator_name, ending, turning, row_bytes, rows_from}
use Rattle.writing.specs.Bytes.{condition_bytes}
use Rattle.writing.proofs.Laws.TreeRows.{operator_same}
use Rattle.writing.proofs.Laws.Bytes.{values_bytes}

abbrev row_tree : Row → Json
row_tree r = list_of (value_tree r.operator) r.entries

row_bytes_lem : (r : Row) (zs : List ℕ) → row_bytes r ++ zs ≡ quoted (written_text r.key) ++
    (58 ∷ (printed (row_tree r) ++ zs))
unfolding row_bytes
row_bytes_lem r zs =
    let w = quoted (written_text r.key) in
    let b = list_bytes (operator_number r.operator) r.entries in
    append_assoc (w ++ (58 ∷ [])) b zs ∙ append_assoc w (58 ∷ []) (b ++ zs)
    ∙ ap (λ (l : List ℕ). w ++ (58 ∷ l)) (values_bytes r.operator r.entries zs)

-- the bytes behind a row of an operator, by the groups of the rows that follow
unfoldable after : Operator → List Group → List ℕ
after o [] = 125 ∷ 125 ∷ []
after o (g ∷ gs) =
    pick (same_operator o g.operator) (printed_more (rows_tree g.rows) ++ printed_more (groups_tree gs))
    (125 ∷ printed_more (groups_tree (g ∷ gs)))

-- the first group of some rows begins with the first row, and what is behind that row
record First (r : Row) (gs : List Group) : Type 0 where
  rows : List Row
  more : List Group
  is : joining r gs ≡ record { operator = r.operator; rows = r ∷ rows } ∷ more
  behind : after r.operator gs ≡ printed_more (rows_tree rows) ++ printed_more (groups_tree more)

first : (r : Row) (gs : List Group) → First r gs
unfolding after printed rows_tree groups_tree
first r [] = record { rows = []; more = []; is = refl; behind = refl }
first r (g ∷ gs) = by (same_operator r.operator g.operator) refl
  where
    by : (b : Bool) → same_operator r.operator g.operator ≡ b → First r (g ∷ gs)
    by true e =
        record {
          rows = g.rows;
          more = gs;
          is = rw e (ap (λ (o : Operator). record { operator = o; rows = r ∷ g.rows } ∷ gs)
              (sym (operator_same r.operator g.operator e)));
          behind = rw e refl;
        }
    by false e = record { rows = []; more = g ∷ gs; is = rw e refl; behind = rw e refl }

-- ---- a row and what is behind it

module _ (r : Row) (R X : List ℕ) where
  -- a row's member before others of its group, and other groups
  abbrev member : List ℕ
  member = quoted (written_text r.key) ++ (58 ∷ (printed (row_tree r) ++ (R ++ X)))

  member_behind : member ≡ (quoted (written_text r.key) ++ (58 ∷ (printed (row_tree r) ++ R))) ++ X
  member_behind =
      let w = quoted (written_text r.key) in
      let t = printed (row_tree r) in
      sym (append_assoc w (58 ∷ (t ++ R)) X ∙ ap (λ (l : List ℕ). w ++ (58 ∷ l)) (append_assoc t R X))

  -- the first row of a group
  opened :
      (w : List ℕ) → (name w ++ (123 ∷ [])) ++ member
      ≡ quoted w ++ (58 ∷ ((123 ∷ (quoted (written_text r.key) ++ (58 ∷ (printed (row_tree r) ++ R)))) ++ X))
  opened w =
      append_assoc (quoted w ++ (58 ∷ [])) (123 ∷ []) member ∙ append_assoc (quoted w) (58 ∷ []) (123 ∷ member)
      ∙ ap (λ (l : List ℕ). quoted w ++ (58 ∷ 123 ∷ l)) member_behind

ending_operator : (o : Operator) → ending (operator_number o) ≡ 125 ∷ 44 ∷ []
ending_operator StringEquals = refl
ending_operator StringLike = refl
ending_operator NumericLessThanEquals = refl

operator_name_lem : (o : Operator) → operator_name (operator_number o) ≡ operator_word o
unfolding operator_name
operator_name_lem StringEquals = refl
operator_name_lem StringLike = refl
operator_name_lem NumericLessThanEquals = refl

operator_some : (o : Operator) → eqb 0 (operator_number o) ≡ false
operator_some StringEquals = refl
operator_some StringLike = refl
operator_some NumericLessThanEquals = refl

operator_like : (o q : Operator) → eqb (operator_number o) (operator_number q) ≡ same_operator o q
operator_like StringEquals StringEquals = refl
operator_like StringEquals StringLike = refl
operator_like StringEquals NumericLessThanEquals = refl
operator_like StringLike StringEquals = refl
operator_like StringLike StringLike = refl
operator_like StringLike NumericLessThanEquals = refl
operator_like NumericLessThanEquals StringEquals = refl
operator_like NumericLessThanEquals StringLike = refl
operator_like NumericLessThanEquals NumericLessThanEquals = refl

module _ (r : Row) (rows : List Row) (more : List Group) where
  abbrev group : Group
  group = record { operator = r.operator; rows = r ∷ rows }

  abbrev behind : List ℕ
  behind = member r (printed_more (rows_tree rows)) (printed_more (groups_tree more))

  turn_first : turning 0 (operator_number r.operator) ++ behind ≡ printed_members (groups_tree (group ∷ more))
  unfolding turning printed rows_tree groups_tree
  turn_first =
      rw (operator_some r.operator, operator_name_lem r.operator)
      (opened r (printed_more (rows_tree rows)) (printed_more (groups_tree more)) (operator_word r.operator))

  turn_other : (o : Operator) → turning (operator_number o) (operator_number r.operator) ++ behind ≡ after o
      (group ∷ more)
  unfolding turning after printed rows_tree groups_tree
  turn_other o = by (same_operator o r.operator) refl
    where
      by : (b : Bool) → same_operator o r.operator ≡ b
          → turning (operator_number o) (operator_number r.operator) ++ behind ≡ after o (group ∷ more)
      by true e =
          rw (operator_like o r.operator, e)
          (ap (λ (l : List ℕ). 44 ∷ l) (member_behind r (printed_more (rows_tree rows)) (printed_more (groups_tree more))))
      by false e =
          rw (operator_like o r.operator, e, ending_operator o, operator_name_lem r.operator)
          (ap (λ (l : List ℕ). 125 ∷ 44 ∷ l)
          (opened r (printed_more (rows_tree rows)) (printed_more (groups_tree more)) (operator_word r.operator)))

abbrev closed : List ℕ
closed = 125 ∷ 125 ∷ []

module _ (k : ℕ) (r : Row) (rs : List Row) where
  -- before the row, and from it on
  parted : (gs : List Group) → rows_from (operator_number r.operator) rs ++ closed ≡ after r.operator gs
      → rows_from k (r ∷ rs) ++ closed
      ≡ turning k (operator_number r.operator) ++ behind r (first r gs).rows (first r gs).more
  unfolding rows_from
  parted gs e =
      let t = turning k (operator_number r.operator) in
      let n = rows_from (operator_number r.operator) rs in
      append_assoc t (row_bytes r ++ n) closed
      ∙ ap (λ (l : List ℕ). t ++ l)
      (append_assoc (row_bytes r) n closed ∙ ap (λ (l : List ℕ). row_bytes r ++ l) (e ∙ (first r gs).behind)
      ∙ row_bytes_lem r (printed_more (rows_tree (first r gs).rows) ++ printed_more (groups_tree (first r gs).more)))

rows_after : (o : Operator) (rs : List Row) → rows_from (operator_number o) rs ++ closed ≡ after o (grouped rs)
unfolding rows_from grouped after
rows_after o [] = refl
rows_after o (r ∷ rs) =
    let f = first r (grouped rs) in
    parted (operator_number o) r rs (grouped rs) (rows_after r.operator rs)
    ∙ turn_other r f.rows f.more o ∙ ap (after o) (sym f.is)

rows_all : (r : Row) (rs : List Row) → rows_from 0 (r ∷ rs) ++ closed ≡ printed_members (groups_tree (grouped (r ∷ rs)))
unfolding grouped
rows_all r rs =
    let f = first r (grouped rs) in
    parted 0 r rs (grouped rs) (rows_after r.operator rs) ∙ turn_first r f.rows f.more
    ∙ ap (λ (gs : List Group). printed_members (groups_tree gs)) (sym f.is)

pub condition_bytes_lem : (rs : List Row) → condition_bytes rs ++ (125 ∷ []) ≡ printed_more (condition_member rs)
unfolding printed
condition_bytes_lem [] = refl
condition_bytes_lem (r ∷ rs) =
    ap (λ (l : List ℕ). 44 ∷ (quoted condition_word ++ (58 ∷ 123 ∷ (l ++ (125 ∷ []))))) (rows_all r rs)
