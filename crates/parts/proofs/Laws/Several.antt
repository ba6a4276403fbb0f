-- One thing or a list of at least one, held behind their number; and objects that have to have a member.
use mathlib.Core.Path.{◌≡◌, refl, sym, ap, ◌∙◌, subst}
use mathlib.Core.Bool.{true, false}
use mathlib.Core.List.{List, [], ◌∷◌}
use Prim.Native.Nat.{ℕ, ◌+◌, ◌≤◌, ◌<◌}
use native.Mathlib.Omega.{arith}
use lib.ListN.{length, set, length-append}
use Rattle.text.specs.Json.{Json, null, bool, number, string, list, object, Values, no_more, also, Members}
use Rattle.text.specs.Contents.{kind_of, Stands}
use Rattle.syntax.specs.Forms.{Reading, wrong, read}
use Rattle.syntax.specs.Members.{cons, each, some, one_or_more}
use Rattle.syntax.specs.Policy.{Value, text, Row, Statement}
use Rattle.syntax.specs.Policy as P
use Rattle.held.specs.Held.{held_each, held_list, held_value, held_row, held_statement}
use Rattle.parts.specs.Room.{cost, costs, costm, Holdable, HoldableList, HoldableObject}
use Rattle.parts.specs.Holding.{is_list, is_object, Extends, Laid, Left, Gathered}
use Rattle.parts.proofs.Laws.Holding.{never}
use Rattle.parts.proofs.Laws.Extends.{extends_front, extends_within}
use Rattle.parts.proofs.Laws.Sofar.{held_one}

-- ---- kinds

pub record AList (t : Json) : Type 0 where
  pub values : Values
  pub is : t ≡ list values

pub is_list_lem : (t : Json) → is_list (kind_of t) ≡ true → AList t
is_list_lem null e = never e
is_list_lem (bool true) e = never e
is_list_lem (bool false) e = never e
is_list_lem (number w) e = never e
is_list_lem (string w) e = never e
is_list_lem (list ts) e = record { values = ts; is = refl }
is_list_lem (object ms) e = never e

pub record AnObject (t : Json) : Type 0 where
  pub inside : Members
  pub is : t ≡ object inside

pub is_object_lem : (t : Json) → is_object (kind_of t) ≡ true → AnObject t
is_object_lem null e = never e
is_object_lem (bool true) e = never e
is_object_lem (bool false) e = never e
is_object_lem (number w) e = never e
is_object_lem (string w) e = never e
is_object_lem (list ts) e = never e
is_object_lem (object ms) e = record { inside = ms; is = refl }

pub list_stands :
    {s : List ℕ} {t : Json} {v e : ℕ} → Stands s t v e → (h : is_list (kind_of t) ≡ true)
    → Stands s (list (is_list_lem t h).values) v e
list_stands {s} {t} {v} {e} p h = subst (λ (u : Json). Stands s u v e) (is_list_lem t h).is p

pub object_stands :
    {s : List ℕ} {t : Json} {v e : ℕ} → Stands s t v e → (h : is_object (kind_of t) ≡ true)
    → Stands s (object (is_object_lem t h).inside) v e
object_stands {s} {t} {v} {e} p h = subst (λ (u : Json). Stands s u v e) (is_object_lem t h).is p

pub list_holdable :
    {s : List ℕ} {v : ℕ} {run : List ℕ} {at n : ℕ} (p : Holdable s v run at n) → is_list (kind_of p.what) ≡ true
    → HoldableList s v run (at + n)
unfolding cost
list_holdable {s} {v} {run} {at} {n} p h =
    let a = is_list_lem p.what h in
    let c : cost p.what ≡ 2 + costs a.values = ap cost a.is in
    record {
      what = a.values;
      stop = p.stop;
      is = subst (λ (t : Json). Stands s t v p.stop) a.is p.is;
      roomy = record { room = omega (arith, c, p.roomy.room); bounded = p.roomy.bounded };
    }

-- an object has room for its members from a place a little behind
pub object_holdable :
    {s : List ℕ} {v : ℕ} {run : List ℕ} {at : ℕ} (j : ℕ) → j ≤ at + 2 → (p : Holdable s v run at 0)
    → is_object (kind_of p.what) ≡ true → HoldableObject s v run j
unfolding cost
object_holdable {s} {v} {run} {at} j few p h =
    let a = is_object_lem p.what h in
    let c : cost p.what ≡ 2 + costm a.inside = ap cost a.is in
    record {
      what = a.inside;
      stop = p.stop;
      is = subst (λ (t : Json). Stands s t v p.stop) a.is p.is;
      roomy = record { room = omega (arith, c, p.roomy.room); bounded = p.roomy.bounded };
    }

-- ---- one or more

module _ {A : Type 0} (h : A → List ℕ) (f : Json → Reading A) where
  pub one_is : (t : Json) → is_list (kind_of t) ≡ false → one_or_more f t ≡ cons (f t) (read [])
  unfolding one_or_more
  one_is null e = refl
  one_is (bool b) e = refl
  one_is (number w) e = refl
  one_is (string w) e = refl
  one_is (list ts) e = never (sym e)
  one_is (object ms) e = refl

  pub one_left : {run run' : List ℕ} (t : Json) → is_list (kind_of t) ≡ false → Left run run' (f t)
      → Left run run' (one_or_more f t)
  one_left t e l =
      record { size = l.size; said = one_is t e ∙ ap (λ (x : Reading A). cons x (read [])) l.said }

  pub one_laid :
      {run run' : List ℕ} {at p : ℕ} (t : Json) → is_list (kind_of t) ≡ false → at < length run
      → Laid h run run' (at + 1) (f t) p → Laid (held_list h) run (set run' at 1) at (one_or_more f t) p
  one_laid {run} {run'} {at} {p} t e low d =
      record {
        thing = d.thing ∷ [];
        said = one_is t e ∙ ap (λ (x : Reading A). cons x (read [])) d.said;
        extends = subst (λ (l : List ℕ). Extends run (set run' at 1) at (1 ∷ l) p) (sym (held_one h d.thing))
            (extends_front 1 low d.extends);
      }

  -- ---- a list

  some_is : (ts : Values) (xs : List A) → each f ts ≡ read xs → (length xs ≡ 0 → ⊥) → some f ts ≡ read xs
  unfolding some each
  some_is no_more xs e n = absurd (n (sym (let y : [] ≡ xs = cc in ap length y)))
  some_is (also t ts) xs e n = e

  some_none : (ts : Values) (xs : List A) → each f ts ≡ read xs → length xs ≡ 0 → some f ts ≡ wrong
  unfolding some each
  some_none no_more xs e n = refl
  some_none (also t ts) xs e n = by (f t) (each f ts) e
    where
      by : (x : Reading A) (y : Reading (List A)) → cons x y ≡ read xs → cons x y ≡ wrong
      by wrong y e = refl
      by (read x) wrong e = refl
      by (read x) (read ys) e = absurd (let z : x ∷ ys ≡ xs = cc in let l = ap length z in omega (arith, l, n))

  some_wrong : (ts : Values) → each f ts ≡ wrong → some f ts ≡ wrong
  unfolding some each
  some_wrong no_more e = refl
  some_wrong (also t ts) e = e

  more_is : {t : Json} {ts : Values} → t ≡ list ts → one_or_more f t ≡ some f ts
  unfolding one_or_more
  more_is e = ap (one_or_more f) e

  pub list_left : {run run' : List ℕ} {t : Json} {ts : Values} → t ≡ list ts → Left run run' (each f ts)
      → Left run run' (one_or_more f t)
  list_left {run} {run'} {t} {ts} e l = record { size = l.size; said = more_is e ∙ some_wrong ts l.said }

  pub list_none :
      {run run' : List ℕ} {at p n : ℕ} {t : Json} {ts : Values} → t ≡ list ts → n ≡ 0
      → Gathered h run run' at (each f ts) p n → Left run run' (one_or_more f t)
  list_none {ts = ts} e z g =
      record { size = g.extends.size; said = more_is e ∙ some_none ts g.things g.said (sym g.count ∙ z) }

  pub list_laid :
      {run run' : List ℕ} {at p n : ℕ} {t : Json} {ts : Values} → t ≡ list ts → (n ≡ 0 → ⊥) → at < length run
      → Gathered h run run' (at + 1) (each f ts) p n → Laid (held_list h) run (set run' at n) at (one_or_more f t) p
  list_laid {run} {run'} {at} {p} {n} {t} {ts} e z low g =
      record {
        thing = g.things;
        said = more_is e ∙ some_is ts g.things g.said (λ k. z (g.count ∙ k));
        extends = subst (λ (k : ℕ). Extends run (set run' at n) at (k ∷ held_each h g.things) p) g.count
            (extends_front n low g.extends);
      }

-- ---- a list's count

pub each_some : {A : Type 0} (h : A → List ℕ) → ((y : A) → 1 ≤ length (h y)) → (xs : List A)
    → length xs ≤ length (held_each h xs)
unfolding held_each
each_some h some [] = omega arith
each_some h some (x ∷ xs) =
    omega (arith, length-append (h x) (held_each h xs), some x, each_some h some xs)

-- things that need a number each are no more than the run has numbers
pub gathered_few :
    {A : Type 0} {h : A → List ℕ} {run run' : List ℕ} {at p n : ℕ} {x : Reading (List A)}
    → ((y : A) → 1 ≤ length (h y)) → at ≤ length run → Gathered h run run' at x p n → n ≤ length run
gathered_few {h = h} some low g =
    omega (
      arith,
      g.count,
      each_some h some g.things,
      g.extends.place,
      extends_within g.extends low,
      g.extends.size,
    )

pub value_some : (x : Value) → 1 ≤ length (held_value x)
value_some (text cs) = omega arith
value_some (P.number n) = omega arith

pub row_some : (r : Row) → 1 ≤ length (held_row r)
unfolding held_row
row_some r = omega arith

pub statement_some : (x : Statement) → 1 ≤ length (held_statement x)
unfolding held_statement
statement_some x = omega arith

-- an object's own cost
pub cost_two : (t : Json) → is_object (kind_of t) ≡ true → 2 ≤ cost t
unfolding cost
cost_two t h = let a = is_object_lem t h in let c : cost t ≡ 2 + costm a.inside = ap cost a.is in omega (arith, c)
