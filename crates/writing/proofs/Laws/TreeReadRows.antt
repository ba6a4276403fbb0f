-- What is read of a sound tree is valid: condition rows. Their runs of one operator are the groups that were read,
-- since no two groups are of one operator.
use mathlib.Core.Path.{◌≡◌, refl, sym, ap, ◌∙◌, subst}
use mathlib.Core.Bool.{Bool, true, false, not}
use mathlib.Core.List.{List, [], ◌∷◌, ◌++◌}
use Prim.Native.Nat.{ℕ}
use Rattle.text.specs.Json.{Json, named}
use Rattle.chars.specs.Strings.{Unit as Part, Body}
use Rattle.text.specs.Printing.{Sound, sound_null, sound_bool, sound_number, sound_string, sound_list, sound_object}
use Rattle.text.specs.Printing.{sound_no_members, sound_named}
use Rattle.syntax.specs.Policy.{Operator, StringEquals, StringLike, NumericLessThanEquals, Row}
use Rattle.syntax.specs.Forms.{read, either, is_key}
use Rattle.syntax.specs.Members.{then, only, characters, one_or_more, members, has_like, differ, differing}
use Rattle.syntax.specs.PolicyLayout.{value_of, key_of, row_of, same_row, rows_of, operator_of, same_operator, Group}
use Rattle.syntax.specs.PolicyLayout.{same_group, group_of, rows_in, operators_in, condition_of}
use Rattle.writing.specs.WrittenForm.{joining, grouped}
use Rattle.writing.specs.Valid.{Each, none, more, Some, first, ValidValue, ValidRow, ValidRows}
use Rattle.parts.proofs.Laws.Slots.{true_false, both_true}
use Rattle.parts.proofs.Laws.Fits.{wrong_read, then_inv, only_inv}
use Rattle.writing.proofs.Laws.TreeRead.{only_test, value_valid, several_valid, members_valid}
use Rattle.writing.proofs.Laws.TreeRows.{InRun, ValidGroup, each_some}

-- ---- rows

row_valid : (o : Operator) (w : List ℕ) (us : List Part) (t : Json) → Body w us → Sound t → (r : Row)
    → row_of o w t ≡ read r → InRun o r
unfolding row_of key_of
row_valid o w us t b s r e =
    let p = then_inv (key_of w)
    (λ k. then (one_or_more (value_of o) t) (λ vs. read (record { operator = o; key = k; entries = vs }))) e in
    let k = then_inv (characters w) (λ k. only (is_key k) k) p.said in
    let l = only_inv (is_key k.thing) k.next in
    let q = then_inv (one_or_more (value_of o) t)
    (λ vs. read (record { operator = o; key = p.thing; entries = vs })) p.next in
    let z : record { operator = o; key = p.thing; entries = q.thing } ≡ r = cc in
    subst (InRun o) z
    (record {
      operator = refl;
      valid = record {
        key = subst (λ (x : List ℕ). is_key x ≡ true) l (only_test (is_key k.thing) k.thing k.next);
        entries = several_valid (ValidValue o) (value_of o) (value_valid o) s q.thing q.said;
      };
    })

-- some rows of this operator, no two of one key
record Run (o : Operator) (rs : List Row) : Type 0 where
  runs : Some Row (InRun o) rs
  apart : differ same_row rs ≡ true

rows_valid : (o : Operator) {t : Json} → Sound t → (rs : List Row) → rows_of o t ≡ read rs → Run o rs
unfolding rows_of
rows_valid o sound_null rs e = wrong_read e
rows_valid o sound_bool rs e = wrong_read e
rows_valid o (sound_number n) rs e = wrong_read e
rows_valid o (sound_string b) rs e = wrong_read e
rows_valid o (sound_list ts) rs e = wrong_read e
rows_valid o (sound_object sound_no_members) rs e = wrong_read e
rows_valid o (sound_object (sound_named {w} {us} {t} {ms} b s ss)) rs e =
    let p = then_inv (members (row_of o) (named w t ms)) (differing same_row) e in
    subst (Run o) (only_inv (differ same_row p.thing) p.next)
    (record {
      runs = members_valid (InRun o) (row_of o) (row_valid o) (sound_named b s ss) p.thing p.said;
      apart = only_test (differ same_row p.thing) p.thing p.next;
    })

group_valid : (w : List ℕ) (us : List Part) (t : Json) → Body w us → Sound t → (g : Group) → group_of w t ≡ read g
    → ValidGroup g
unfolding group_of
group_valid w us t b s g e =
    let p = then_inv (operator_of w) (λ o. then (rows_of o t) (λ rs. read (record { operator = o; rows = rs }))) e in
    let q = then_inv (rows_of p.thing t) (λ rs. read (record { operator = p.thing; rows = rs })) p.next in
    let z : record { operator = p.thing; rows = q.thing } ≡ g = cc in
    let v = rows_valid p.thing s q.thing q.said in
    subst ValidGroup z (record { runs = v.runs; apart = v.apart })

-- ---- the runs of what was read are the groups

like_itself : (o : Operator) → same_operator o o ≡ true
like_itself StringEquals = refl
like_itself StringLike = refl
like_itself NumericLessThanEquals = refl

-- groups of which the first, if there is one, is of another operator
abbrev Away : Operator → List Group → Type 0
Away o [] = Unit {0}
Away o (g ∷ gs) = same_operator o g.operator ≡ false

module _ (r : Row) (o : Operator) (e : r.operator ≡ o) where
  joining_away : (gs : List Group) → Away o gs → joining r gs ≡ record { operator = o; rows = r ∷ [] } ∷ gs
  joining_away [] a = rw e
  joining_away (g ∷ gs) a = rw (e, a)

  joining_with : (rs : List Row) (gs : List Group)
      → joining r (record { operator = o; rows = rs } ∷ gs) ≡ record { operator = o; rows = r ∷ rs } ∷ gs
  joining_with rs gs = rw (e, like_itself o)

run_back : (o : Operator) (ws : List Row) (gs : List Group) {rs : List Row} {r : Row} → grouped ws ≡ gs → Away o gs
    → InRun o r → Each Row (InRun o) rs → grouped (r ∷ (rs ++ ws)) ≡ record { operator = o; rows = r ∷ rs } ∷ gs
unfolding grouped
run_back o ws gs {r = r} e a p none = ap (joining r) e ∙ joining_away r o p.operator gs a
run_back o ws gs {r = r} e a p (more {x = q} {xs = rs} k ps) =
    ap (joining r) (run_back o ws gs e a k ps) ∙ joining_with r o p.operator (q ∷ rs) gs

not_like : (t : Bool) → not t ≡ true → t ≡ false
not_like true e = absurd (true_false e refl)
not_like false e = refl

either_first : (t u : Bool) → either t u ≡ false → t ≡ false
either_first true u e = absurd (true_false refl e)
either_first false u e = refl

away : (g : Group) (gs : List Group) → has_like same_group g gs ≡ false → Away g.operator gs
unfolding has_like
away g [] e = tt
away g (h ∷ gs) e = either_first (same_group g h) (has_like same_group g gs) e

group_back : (g : Group) (ws : List Row) (gs : List Group) {rs : List Row} → grouped ws ≡ gs → Away g.operator gs
    → Some Row (InRun g.operator) rs → grouped (rs ++ ws) ≡ record { operator = g.operator; rows = rs } ∷ gs
group_back g ws gs e a (first p ps) = run_back g.operator ws gs e a p ps

groups_back : {gs : List Group} → Each Group ValidGroup gs → differ same_group gs ≡ true → grouped (rows_in gs) ≡ gs
unfolding grouped rows_in differ
groups_back none e = refl
groups_back (more {x = g} {xs = gs} v vs) e =
    let p = both_true (not (has_like same_group g gs)) (differ same_group gs) e in
    group_back g (rows_in gs) gs (groups_back vs p.1)
    (away g gs (not_like (has_like same_group g gs) p.0)) v.runs

-- ---- conditions

run_rows : {o : Operator} {rs ws : List Row} → Each Row (InRun o) rs → Each Row ValidRow ws
    → Each Row ValidRow (rs ++ ws)
run_rows none vs = vs
run_rows (more p ps) vs = more p.valid (run_rows ps vs)

groups_rows : {gs : List Group} → Each Group ValidGroup gs → Each Row ValidRow (rows_in gs)
unfolding rows_in
groups_rows none = none
groups_rows (more v vs) = run_rows (each_some v.runs) (groups_rows vs)

groups_keys : {gs : List Group} → Each Group ValidGroup gs → Each Group (λ g. differ same_row g.rows ≡ true) gs
groups_keys none = none
groups_keys (more v vs) = more v.apart (groups_keys vs)

pub groups_valid : {gs : List Group} → Each Group ValidGroup gs → differ same_group gs ≡ true → ValidRows (rows_in gs)
groups_valid {gs} v e =
    let b = sym (groups_back v e) in
    record {
      each = groups_rows v;
      keys = subst (Each Group (λ g. differ same_row g.rows ≡ true)) b (groups_keys v);
      operators = subst (λ (l : List Group). differ same_group l ≡ true) b e;
    }

pub condition_valid : (t : Json) → Sound t → (rs : List Row) → condition_of t ≡ read rs → ValidRows rs
unfolding condition_of operators_in
condition_valid t sound_null rs e = wrong_read e
condition_valid t sound_bool rs e = wrong_read e
condition_valid t (sound_number n) rs e = wrong_read e
condition_valid t (sound_string b) rs e = wrong_read e
condition_valid t (sound_list ts) rs e = wrong_read e
condition_valid t (sound_object sound_no_members) rs e = wrong_read e
condition_valid t (sound_object (sound_named {w} {us} {t = u} {ms} b s ss)) rs e =
    let p = then_inv (members group_of (named w u ms)) (λ gs. only (differ same_group gs) (rows_in gs)) e in
    let v = members_valid ValidGroup group_of group_valid (sound_named b s ss) p.thing p.said in
    subst ValidRows (only_inv (differ same_group p.thing) p.next)
    (groups_valid (each_some v) (only_test (differ same_group p.thing) (rows_in p.thing) p.next))
