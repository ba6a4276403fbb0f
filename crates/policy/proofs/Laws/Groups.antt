-- The operators of a condition: each has rows, none stands twice, their rows follow one another.
use mathlib.Core.Path.{◌≡◌, refl, sym, ap, ◌∙◌, subst}
use mathlib.Core.Bool.{Bool, true, false}
use mathlib.Core.List.{List, [], ◌∷◌, ◌++◌}
use Prim.Native.Nat.{ℕ, ◌+◌, ◌<◌}
use native.Mathlib.Omega.{arith}
use lib.ListN.{length, set, length-append}
use Rattle.text.specs.Json.{Json, null, bool, number, string, list, object, Members, no_members, named}
use Rattle.text.specs.Contents.{kind_of}
use Rattle.syntax.specs.Policy.{Operator}
use Rattle.syntax.specs.Forms.{Reading, wrong, read}
use Rattle.syntax.specs.Members.{then, only, members, differ, differing}
use Rattle.syntax.specs.PolicyLayout.{row_of, same_row, rows_of, Group, same_group, group_of}
use Rattle.syntax.specs.PolicyLayout.{rows_in, operators_in}
use Rattle.held.specs.Held.{held_each, held_list, held_row}
use Rattle.parts.specs.Holding.{is_object, Extends, Laid, Left, Gathered}
use Rattle.parts.proofs.Laws.Holding.{never}
use Rattle.parts.proofs.Laws.Extends.{extends_front}
use Rattle.parts.proofs.Laws.Fits.{then_inv, only_inv, cons_inv}
use Rattle.parts.proofs.Laws.Sofar.{held_append}

-- ---- rows of one operator

-- a reading of members that is of at least one thing where there is a member
pub record Many {A : Type 0} (x : Reading (List A)) : Type 0 where
  pub some : (xs : List A) → x ≡ read xs → length xs ≡ 0 → ⊥

pub many_rows : (o : Operator) (w : List ℕ) (t : Json) (ms : Members)
    → Many (then (members (row_of o) (named w t ms)) (differing same_row))
unfolding members
many_rows o w t ms =
    record {
      some = λ xs e z.
          let i = then_inv (members (row_of o) (named w t ms)) (differing same_row) e in
          let c = cons_inv (row_of o w t) (members (row_of o) ms) i.said in
          let q : i.thing ≡ xs = only_inv (differ same_row i.thing) i.next in
          let l = ap length (sym q ∙ c.is) in
          omega (arith, l, z);
    }

-- a value that has to be an object with a member: its reading, and that of the members
pub record Inside {A : Type 0} (whole : Json → Reading (List A)) (inner : Members → Reading (List A)) : Type 0 where
  pub other : (t : Json) → is_object (kind_of t) ≡ false → whole t ≡ wrong
  pub empty : inner no_members ≡ read []
  pub none : whole (object no_members) ≡ wrong
  pub some : (w : List ℕ) (t : Json) (ms : Members) → whole (object (named w t ms)) ≡ inner (named w t ms)
  pub many : (w : List ℕ) (t : Json) (ms : Members) → Many (inner (named w t ms))

module _ {A : Type 0} (whole : Json → Reading (List A)) (inner : Members → Reading (List A))
    (i : Inside whole inner) where
  inside_wrong : (ms : Members) → inner ms ≡ wrong → whole (object ms) ≡ wrong
  inside_wrong no_members e = i.none
  inside_wrong (named w t ms) e = i.some w t ms ∙ e

  inside_none : (ms : Members) (xs : List A) → inner ms ≡ read xs → length xs ≡ 0 → whole (object ms) ≡ wrong
  inside_none no_members xs e z = i.none
  inside_none (named w t ms) xs e z = absurd ((i.many w t ms).some xs e z)

  inside_some : (ms : Members) (xs : List A) → inner ms ≡ read xs → (length xs ≡ 0 → ⊥) → whole (object ms) ≡ read xs
  inside_some no_members xs e z =
      absurd (z (let q : read [] ≡ read xs = sym i.empty ∙ e in let y : [] ≡ xs = cc in sym (ap length y)))
  inside_some (named w t ms) xs e z = i.some w t ms ∙ e

  module _ {t : Json} {ms : Members} (o : t ≡ object ms) where
    pub object_left : {run run' : List ℕ} → Left run run' (inner ms) → Left run run' (whole t)
    object_left l = record { size = l.size; said = ap whole o ∙ inside_wrong ms l.said }

    module _ {h : A → List ℕ} {run run' : List ℕ} {at p n : ℕ} (g : Gathered h run run' at (inner ms) p n) where
      pub object_none : n ≡ 0 → Left run run' (whole t)
      object_none z =
          record {
            size = g.extends.size;
            said = ap whole o ∙ inside_none ms g.things g.said (sym g.count ∙ z);
          }

      pub object_read : (n ≡ 0 → ⊥) → whole t ≡ read g.things
      object_read z = ap whole o ∙ inside_some ms g.things g.said (λ k. z (g.count ∙ k))

      pub object_some : (n ≡ 0 → ⊥) → Gathered h run run' at (whole t) p n
      object_some z = record { things = g.things; said = object_read z; count = g.count; extends = g.extends }

    -- behind their number
    pub object_laid :
        {h : A → List ℕ} {run run' : List ℕ} {at p n : ℕ} → at < length run → (n ≡ 0 → ⊥)
        → Gathered h run run' (at + 1) (inner ms) p n → Laid (held_list h) run (set run' at n) at (whole t) p
    object_laid {h} {run} {run'} {at} {p} {n} low z g =
        record {
          thing = g.things;
          said = object_read g z;
          extends = subst (λ (k : ℕ). Extends run (set run' at n) at (k ∷ held_each h g.things) p) g.count
              (extends_front n low g.extends);
        }

pub rows_inside : (o : Operator) → Inside (rows_of o) (λ ms. then (members (row_of o) ms) (differing same_row))
unfolding rows_of members differ
rows_inside o =
    record {
      other = other;
      empty = refl;
      none = refl;
      some = λ w t ms. refl;
      many = many_rows o;
    }
  where
    other : (t : Json) → is_object (kind_of t) ≡ false → rows_of o t ≡ wrong
    other null e = refl
    other (bool b) e = refl
    other (number w) e = refl
    other (string w) e = refl
    other (list ts) e = refl
    other (object ms) e = never (sym e)

-- ---- groups

abbrev pub held_group : Group → List ℕ
held_group g = held_each held_row g.rows

pub groups_held : (gs : List Group) → held_each held_group gs ≡ held_each held_row (rows_in gs)
unfolding held_each rows_in
groups_held [] = refl
groups_held (g ∷ gs) =
    ap (λ (l : List ℕ). held_group g ++ l) (groups_held gs) ∙ sym (held_append held_row g.rows (rows_in gs))

pub rows_snoc : (gs : List Group) (g : Group) → length (rows_in (gs ++ (g ∷ []))) ≡ length (rows_in gs) + length g.rows
unfolding rows_in
rows_snoc [] g = length-append g.rows [] ∙ omega arith
rows_snoc (f ∷ gs) g =
    length-append f.rows (rows_in (gs ++ (g ∷ [])))
    ∙ omega (arith, rows_snoc gs g, length-append f.rows (rows_in gs))

pub operators_is :
    (ms : Members) → operators_in ms ≡ then (then (members group_of ms) (differing same_group)) (λ gs. read (rows_in gs))
unfolding operators_in
operators_is ms = by (members group_of ms)
  where
    on : (t : Bool) (gs : List Group) → only t (rows_in gs) ≡ then (only t gs) (λ gs. read (rows_in gs))
    on true gs = refl
    on false gs = refl

    by : (x : Reading (List Group)) → then x (λ gs. only (differ same_group gs) (rows_in gs))
        ≡ then (then x (differing same_group)) (λ gs. read (rows_in gs))
    by wrong = refl
    by (read gs) = on (differ same_group gs) gs
