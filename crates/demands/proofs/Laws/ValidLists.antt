-- What is kept of valid entries and rows is valid, and within the limits.
use mathlib.Core.Path.{◌≡◌, refl, sym, ap, ◌∙◌, subst}
use mathlib.Core.Bool.{Bool, true, false, not}
use mathlib.Core.List.{List, [], ◌∷◌, map}
use Prim.Native.Nat.{ℕ, ◌≤◌}
use native.Mathlib.Omega.{arith}
use lib.ListN.{length, take, drop}
use Rattle.chars.specs.Base.{pick}
use Rattle.syntax.specs.Policy.{Operator, Value, Row}
use Rattle.syntax.specs.Forms.{both, either, same_key}
use Rattle.syntax.specs.Members.{has_like, differ}
use Rattle.syntax.specs.PolicyLayout.{Group, same_row, same_operator, same_group}
use Rattle.held.specs.Held.{any_of, long_value}
use Rattle.parts.proofs.Laws.Slots.{both_true}
use Rattle.writing.specs.WrittenForm.{joining, grouped}
use Rattle.writing.specs.Valid as Each
use Rattle.writing.specs.Valid.{Each, Some, ValidAction, ValidResource, ValidValue, ValidRow, ValidRows}
use Rattle.candidates.specs.Candidates.{Content, empty, holds}
use Rattle.candidates.specs.Entries.{Place, kind_of}
use Rattle.candidates.specs.Rows.{row_numbers, content_of, is_row}
use Rattle.refined.specs.Finishing.{kept_by, kept, behind, kept_rows, has_some}
use Rattle.candidates.proofs.Laws.Refined.{ValidAt, refines}
use Rattle.demands.proofs.Laws.Narrowing.{false_true, list_fits, candidate}

-- ---- one list

pub either_none : (a b : Bool) → either a b ≡ false → (a ≡ false) × (b ≡ false)
either_none true b e = false_true (sym e)
either_none false b e = (refl, e)

pub both_false : {a b : Bool} → a ≡ false → b ≡ false → either a b ≡ false
both_false {a} {b} e f = ap (λ (x : Bool). either x b) e ∙ f

pub record ListValid (p : Place) (xs : List Value) : Type 0 where
  pub each : Each Value (ValidAt p) xs
  pub short : any_of long_value xs ≡ false

keep_one : (p : Place) (x : Value) (rest : List Value) (ns : List ℕ) (c : Content) → content_of ns ≡ c
    → is_row (kind_of p x) ns ≡ true → ValidAt p x → long_value x ≡ false → ListValid p rest → ListValid p (kept_by c x rest)
unfolding any_of
keep_one p x rest ns empty e f v l w = w
keep_one p x rest ns (holds c) e f v l w =
    let r = refines p x c (candidate p x ns c f e) in
    record { each = Each.more (r.valid v) w.each; short = both_false (r.short l) w.short }

each_head : {A : Type 0} {P : A → Type 0} {x : A} {xs : List A} → Each A P (x ∷ xs) → P x
each_head (Each.more v vs) = v

each_tail : {A : Type 0} {P : A → Type 0} {x : A} {xs : List A} → Each A P (x ∷ xs) → Each A P xs
each_tail (Each.more v vs) = vs

pub kept_valid : (p : Place) (xs : List Value) (ns : List ℕ) → list_fits p xs ns ≡ true → ListValid p xs
    → ListValid p (kept xs ns)
unfolding kept list_fits any_of
kept_valid p [] ns f w = w
kept_valid p (x ∷ xs) ns f w =
    let t = both_true (is_row (kind_of p x) (take row_numbers ns)) (list_fits p xs (drop row_numbers ns)) f in
    let l = either_none (long_value x) (any_of long_value xs) w.short in
    keep_one p x (kept xs (drop row_numbers ns)) (take row_numbers ns) (content_of (take row_numbers ns)) refl t.0
    (each_head w.each) l.0
    (kept_valid p xs (drop row_numbers ns) t.1 (record { each = each_tail w.each; short = l.1 }))

few_one : (c : Content) (x : Value) (rest xs : List Value) → length rest ≤ length xs
    → length (kept_by c x rest) ≤ length (x ∷ xs)
few_one empty x rest xs h = omega (arith, h)
few_one (holds c) x rest xs h = omega (arith, h)

pub kept_few : (xs : List Value) (ns : List ℕ) → length (kept xs ns) ≤ length xs
unfolding kept
kept_few [] ns = omega arith
kept_few (x ∷ xs) ns =
    few_one (content_of (take row_numbers ns)) x (kept xs (drop row_numbers ns)) xs (kept_few xs (drop row_numbers ns))

-- at least one is left
pub each_some : {A : Type 0} {P : A → Type 0} (xs : List A) → Each A P xs → has_some xs ≡ true → Some A P xs
each_some [] e h = false_true h
each_some (x ∷ xs) (Each.more v vs) h = Each.first v vs

-- ---- condition rows: their keys and operators stay

abbrev key_of : Row → List ℕ
key_of r = r.key

-- a group by its operator and its rows' keys
record Shape : Type 0 where
  operator : Operator
  keys : List (List ℕ)

abbrev shape_of : Group → Shape
shape_of g = record { operator = g.operator; keys = map key_of g.rows }

shape_joining : Operator → List ℕ → List Shape → List Shape
shape_joining o k [] = record { operator = o; keys = k ∷ [] } ∷ []
shape_joining o k (g ∷ gs) =
    pick (same_operator o g.operator) (record { operator = g.operator; keys = k ∷ g.keys } ∷ gs)
    (record { operator = o; keys = k ∷ [] } ∷ g ∷ gs)

joining_shape : (r : Row) (gs : List Group)
    → map shape_of (joining r gs) ≡ shape_joining r.operator r.key (map shape_of gs)
unfolding shape_joining
joining_shape r [] = refl
joining_shape r (g ∷ gs) = by (same_operator r.operator g.operator)
  where
    by : (b : Bool) → map shape_of (pick b (record { operator = g.operator; rows = r ∷ g.rows } ∷ gs)
        (record { operator = r.operator; rows = r ∷ [] } ∷ g ∷ gs))
        ≡ pick b (record { operator = g.operator; keys = r.key ∷ map key_of g.rows } ∷ map shape_of gs)
        (record { operator = r.operator; keys = r.key ∷ [] } ∷ shape_of g ∷ map shape_of gs)
    by true = refl
    by false = refl

same_shapes : (rs : List Row) (ns : List ℕ) → map shape_of (grouped (kept_rows rs ns)) ≡ map shape_of (grouped rs)
unfolding grouped kept_rows
same_shapes [] ns = refl
same_shapes (r ∷ rs) ns =
    joining_shape (record { operator = r.operator; key = r.key; entries = kept r.entries ns })
    (grouped (kept_rows rs (behind r.entries ns)))
    ∙ ap (shape_joining r.operator r.key) (same_shapes rs (behind r.entries ns))
    ∙ sym (joining_shape r (grouped rs))

like_keys : (r : Row) (rs : List Row) → has_like same_row r rs ≡ has_like same_key r.key (map key_of rs)
unfolding has_like
like_keys r [] = refl
like_keys r (q ∷ rs) = ap (either (same_key r.key q.key)) (like_keys r rs)

differ_keys : (rs : List Row) → differ same_row rs ≡ differ same_key (map key_of rs)
unfolding differ
differ_keys [] = refl
differ_keys (r ∷ rs) =
    ap (λ (b : Bool). both (not b) (differ same_row rs)) (like_keys r rs)
    ∙ ap (both (not (has_like same_key r.key (map key_of rs)))) (differ_keys rs)

like_operators : (g : Group) (gs : List Group)
    → has_like same_group g gs ≡ has_like same_operator g.operator (map (λ (s : Shape). s.operator) (map shape_of gs))
unfolding has_like
like_operators g [] = refl
like_operators g (h ∷ gs) = ap (either (same_operator g.operator h.operator)) (like_operators g gs)

differ_operators : (gs : List Group)
    → differ same_group gs ≡ differ same_operator (map (λ (s : Shape). s.operator) (map shape_of gs))
unfolding differ
differ_operators [] = refl
differ_operators (g ∷ gs) =
    ap (λ (b : Bool). both (not b) (differ same_group gs)) (like_operators g gs)
    ∙ ap (both (not (has_like same_operator g.operator (map (λ (s : Shape). s.operator) (map shape_of gs)))))
    (differ_operators gs)

abbrev pub KeysDiffer : Group → Type 0
KeysDiffer g = differ same_row g.rows ≡ true

abbrev ShapeDiffers : Shape → Type 0
ShapeDiffers s = differ same_key s.keys ≡ true

each_to : (gs : List Group) → Each Group KeysDiffer gs → Each Shape ShapeDiffers (map shape_of gs)
each_to gs Each.none = Each.none
each_to (g ∷ gs) (Each.more v vs) = Each.more (sym (differ_keys g.rows) ∙ v) (each_to gs vs)

each_from : (gs : List Group) → Each Shape ShapeDiffers (map shape_of gs) → Each Group KeysDiffer gs
each_from [] e = Each.none
each_from (g ∷ gs) (Each.more v vs) = Each.more (differ_keys g.rows ∙ v) (each_from gs vs)

pub kept_keys : (rs : List Row) (ns : List ℕ) → Each Group KeysDiffer (grouped rs) → Each Group KeysDiffer (grouped (kept_rows rs ns))
kept_keys rs ns e =
    each_from (grouped (kept_rows rs ns))
    (subst (Each Shape ShapeDiffers) (sym (same_shapes rs ns)) (each_to (grouped rs) e))

pub kept_operators : (rs : List Row) (ns : List ℕ) → differ same_group (grouped rs) ≡ true
    → differ same_group (grouped (kept_rows rs ns)) ≡ true
kept_operators rs ns e =
    differ_operators (grouped (kept_rows rs ns))
    ∙ ap (λ (l : List Shape). differ same_operator (map (λ (s : Shape). s.operator) l)) (same_shapes rs ns)
    ∙ sym (differ_operators (grouped rs)) ∙ e
