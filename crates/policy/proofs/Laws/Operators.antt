-- The walk over the operators of a condition as far as it has come.
use Rattle.std.specs.Prelude.{Option, Some, None}
use mathlib.Core.Path.{◌≡◌, refl, sym, ap, ◌∙◌, subst}
use mathlib.Core.Bool.{Bool, true, false}
use mathlib.Core.List.{List, [], ◌∷◌, ◌++◌}
use Prim.Native.Nat.{ℕ, ◌+◌, ◌≤◌, ◌<◌}
use native.Mathlib.Omega.{arith}
use lib.ListN.{length, get_or, set, replicate, length-append}
use Rattle.chars.specs.Base.{part}
use Rattle.text.specs.Json.{Json, null, bool, number, string, list, object, Members, no_members, named}
use Rattle.text.specs.Contents.{Stands, Others, Continuing, Leads, Leader, kind_of}
use Rattle.text.specs.declared.walk.Member.{Member}
use Rattle.text.specs.declared.walk.Member.TheVariants as M
use Rattle.syntax.specs.Policy.{Operator, Row}
use Rattle.syntax.specs.Forms.{Reading, wrong, read}
use Rattle.syntax.specs.Members.{then, members, differ, differing}
use Rattle.syntax.specs.PolicyLayout.{rows_of, operator_of, Group, same_group, group_of, rows_in, operators_in}
use Rattle.syntax.specs.PolicyLayout.{condition_of}
use Rattle.held.specs.Held.{held_row, operator_number}
use Rattle.parts.specs.Room.{cost, Holdable, HoldableObject}
use Rattle.parts.specs.Spoken.{operator_is, told_operator}
use Rattle.parts.specs.Holding.{is_object, Extends, Laid, Left, Gathered}
use Rattle.parts.specs.declared.words.Operator as W
use Rattle.parts.proofs.Laws.Holding.{never}
use Rattle.parts.proofs.Laws.Formed.{then_wrong, then_read}
use Rattle.parts.proofs.Laws.Fits.{wrong_read, then_inv, only_inv, cons_inv}
use Rattle.policy.proofs.Laws.FitsPolicy.{group_fits}
use Rattle.parts.proofs.Laws.Walking.{left_of}
use Rattle.parts.proofs.Laws.Differ.{differ_snoc, same_group_symmetric}
use Rattle.parts.proofs.Laws.Sofar.{sofar_same, twice_wrong, apart_read}
use Rattle.parts.proofs.Laws.Several.{each_some, row_some}
use Rattle.policy.proofs.Laws.Collecting.{Collecting, collecting_start, whole_told, collecting_read, next}
use Rattle.policy.proofs.Laws.Collecting.{collecting_past}
use Rattle.policy.proofs.Laws.Collecting.{next_cost, next_members, next_holdable}
use Rattle.policy.proofs.Laws.Collecting.{next_continuing, next_wrong, collecting_more, collecting_less}
use Rattle.policy.proofs.Laws.Groups.{Many, Inside, many_rows, held_group, groups_held, rows_snoc}
use Rattle.straight.proofs.Laws.Seen.{Seen, seen_none, seen_more}
use Rattle.policy.proofs.Laws.Groups.{operators_is}

pub record Operators (s : List ℕ) (v : ℕ) (run₀ : List ℕ) (at : ℕ) (run : List ℕ) (marks : List Bool) (m : Member)
    (p n : ℕ) : Type 0 where
  pub groups : List Group
  pub going : Collecting held_group group_of group_fits s v run₀ at run m p n groups
  pub count : n ≡ length (rows_in groups)
  pub apart : differ same_group groups ≡ true
  pub seen : Seen marks groups

pub operators_start :
    {s : List ℕ} {v at : ℕ} {run : List ℕ} (p : HoldableObject s v run at) (m : Member)
    → Leads s v p.what p.stop m → Operators s v run at run (replicate 4 false) m at 0
unfolding differ rows_in
operators_start p m c =
    record {
      groups = [];
      going = collecting_start held_group group_of group_fits p m c;
      count = refl;
      apart = refl;
      seen = seen_none;
    }

-- ---- a group

module _ (w : List ℕ) (t : Json) where
  pub group_unknown : {x : Option W.Operator} → told_operator x ≡ operator_of w → x ≡ None → group_of w t ≡ wrong
  unfolding group_of
  group_unknown e f = then_wrong _ (sym e ∙ ap told_operator f)

  pub known : {x : Option W.Operator} {o : W.Operator} → told_operator x ≡ operator_of w → x ≡ Some o → operator_of w ≡ read
      (operator_is o)
  known e f = sym e ∙ ap told_operator f

  group_is : {o : Operator} → operator_of w ≡ read o
      → group_of w t ≡ then (rows_of o t) (λ rs. read (record { operator = o; rows = rs }))
  unfolding group_of
  group_is e = then_read _ e

  pub group_left : {run run' : List ℕ} {o : Operator} → operator_of w ≡ read o → Left run run' (rows_of o t)
      → Left run run' (group_of w t)
  group_left e l = record { size = l.size; said = group_is e ∙ then_wrong _ l.said }

  pub group_laid :
      {run run' : List ℕ} {o : Operator} {p q n : ℕ} → operator_of w ≡ read o
      → Gathered held_row run run' p (rows_of o t) q n → Laid held_group run run' p (group_of w t) q
  group_laid {o = o} e g =
      record {
        thing = record { operator = o; rows = g.things };
        said = group_is e ∙ then_read _ g.said;
        extends = g.extends;
      }

-- ---- the walk

module _ {s : List ℕ} {v at : ℕ} {run₀ run : List ℕ} {marks : List Bool} {m : Member} {p n : ℕ}
    (g : Operators s v run₀ at run marks m p n) where
  abbrev told : (P : Members → Type 0) → P g.going.whole → (ms : Members) (e : ℕ) → Stands s (object ms) v e → P ms
  told = whole_told held_group group_of group_fits g.going

  -- a wrong or repeated group makes the whole wrong
  all_wrong : (ms : Members) → then (members group_of ms) (differing same_group) ≡ wrong → operators_in ms ≡ wrong
  all_wrong ms e = operators_is ms ∙ then_wrong _ e

  pub operators_end :
      (q : ℕ) → m ≡ M.Past q → (ms : Members) (e : ℕ) → Stands s (object ms) v e
      → Gathered held_row run₀ run at (operators_in ms) p n
  operators_end q e =
      told (λ x. Gathered held_row run₀ run at (operators_in x) p n)
      (record {
        things = rows_in g.groups;
        said = operators_is g.going.whole ∙ then_read _ (apart_read same_group same_group_symmetric
            (members group_of g.going.whole) g.groups
            (collecting_read held_group group_of group_fits g.going q e) g.apart);
        count = g.count;
        extends = subst (λ (l : List ℕ). Extends run₀ run at l p) (groups_held g.groups)
            g.going.sofar.extends;
      })

  -- where they end
  pub operators_past : (q : ℕ) → m ≡ M.Past q → (ms : Members) (e : ℕ) → Stands s (object ms) v e → q ≡ e
  operators_past = collecting_past held_group group_of group_fits g.going

  module _ (a b i : ℕ) (q : m ≡ M.Named a b i) where
    abbrev pub here : Leader s g.going.low g.going.left g.going.stop a b i
    here = next held_group group_of group_fits g.going a b i q

    pub here_holdable : Holdable s i run p 0
    here_holdable = next_holdable held_group group_of group_fits g.going a b i q

    pub here_continuing : {e : ℕ} → e ≡ here.stop → Continuing s e
    here_continuing = next_continuing held_group group_of group_fits g.going a b i q

    pub here_less :
        (m' : Member) (e : ℕ) → e ≡ here.stop → ((ms : Members) (y : ℕ) → Others s ms e y → Leads s e ms y m')
        → left_of s m' < left_of s m
    here_less = collecting_less held_group group_of group_fits g.going a b i q

    pub operators_wrong :
        {run' : List ℕ} → Left run run' (group_of (part s a b) here.head) → (ms : Members) (e : ℕ)
        → Stands s (object ms) v e → Left run₀ run' (operators_in ms)
    operators_wrong {run'} l =
        let x = next_wrong held_group group_of group_fits g.going a b i q l in
        told (λ x. Left run₀ run' (operators_in x))
        (record { size = x.size; said = all_wrong g.going.whole (then_wrong _ x.said) })

    -- an operator seen before
    pub operators_twice :
        (o : Operator) → operator_of (part s a b) ≡ read o → get_or marks (operator_number o) false ≡ true
        → (ms : Members) (e : ℕ) → Stands s (object ms) v e → Left run₀ run (operators_in ms)
    operators_twice o e z =
        told (λ x. Left run₀ run (operators_in x))
        (record {
          size = g.going.sofar.extends.size;
          said = all_wrong g.going.whole (by (rows_of o here.head) (group_is (part s a b) here.head e));
        })
      where
        by : (y : Reading (List Row))
            → group_of (part s a b) here.head ≡ then y (λ rs. read (record { operator = o; rows = rs }))
            → then (members group_of g.going.whole) (differing same_group) ≡ wrong
        by wrong k =
            let l : Left run run (group_of (part s a b) here.head) = record { size = refl; said = k } in
            then_wrong _ (next_wrong held_group group_of group_fits g.going a b i q l).said
        by (read rs) k =
            twice_wrong same_group same_group_symmetric (members group_of g.going.whole) (members group_of here.tail)
            g.groups (record { operator = o; rows = rs })
            (sofar_same held_group g.going.sofar (group_of (part s a b) here.head) (members group_of here.tail)
            (next_members held_group group_of group_fits g.going a b i q) (record { operator = o; rows = rs }) k)
            (g.seen.marked (record { operator = o; rows = rs }) z)

    module _ {o : Operator} {run' : List ℕ} {p' c : ℕ} (e : operator_of (part s a b) ≡ read o)
        (d : Gathered held_row run run' p (rows_of o here.head) p' c) where
      group : Laid held_group run run' p (group_of (part s a b) here.head) p'
      group = group_laid (part s a b) here.head e d

      few : c ≤ length (part s a b) + 3 + cost here.head
      unfolding group group_laid
      few =
          let f = group_fits (part s a b) here.head group.thing group.said in
          let h : c ≡ length d.things = d.count in
          omega (arith, h, each_some held_row row_some d.things, f)

      pub operators_size : length run' ≡ length run₀
      operators_size = d.extends.size ∙ g.going.sofar.extends.size

      pub operators_few : n + c ≤ 16384
      operators_few =
          let x = g.going.sofar in
          omega (arith, next_cost held_group group_of group_fits g.going a b i q, x.few, x.bounded, few)

      pub operators_more :
          (k : ℕ) → k ≡ operator_number o → get_or marks k false ≡ false → (m' : Member) (y : ℕ) → y ≡ here.stop
          → ((ms : Members) (z : ℕ) → Others s ms y z → Leads s y ms z m')
          → Operators s v run₀ at run' (set marks k true) m' p' (n + c)
      unfolding group group_laid
      operators_more k f z m' y h l =
          let it : Group = record { operator = o; rows = d.things } in
          record {
            groups = g.groups ++ (it ∷ []);
            going = collecting_more held_group group_of group_fits g.going a b i q group (omega (arith, few)) m' y h l;
            count = omega (arith, rows_snoc g.groups it, g.count, d.count);
            apart = differ_snoc same_group same_group_symmetric g.groups it g.apart
                (g.seen.clear it (ap (λ (j : ℕ). get_or marks j false) (sym f) ∙ z));
            seen = seen_more it k f g.seen;
          }

-- ---- the condition

rows_many : (o : Operator) (t : Json) (rs : List Row) → rows_of o t ≡ read rs → length rs ≡ 0 → ⊥
unfolding rows_of
rows_many o null rs e z = wrong_read e
rows_many o (bool b) rs e z = wrong_read e
rows_many o (number w) rs e z = wrong_read e
rows_many o (string w) rs e z = wrong_read e
rows_many o (list ts) rs e z = wrong_read e
rows_many o (object no_members) rs e z = wrong_read e
rows_many o (object (named w t ms)) rs e z = (many_rows o w t ms).some rs e z

group_many : (w : List ℕ) (t : Json) (g : Group) → group_of w t ≡ read g → length g.rows ≡ 0 → ⊥
unfolding group_of
group_many w t g e z =
    let i = then_inv (operator_of w) _ e in
    let j = then_inv (rows_of i.thing t) _ i.next in
    let y : record { operator = i.thing; rows = j.thing } ≡ g = by j.next in
    rows_many i.thing t j.thing j.said (ap (λ (x : Group). length x.rows) y ∙ z)
  where
    by : {x y : Group} → read x ≡ read y → x ≡ y
    by e = cc

many_operators : (w : List ℕ) (t : Json) (ms : Members) → Many (operators_in (named w t ms))
unfolding operators_in members rows_in
many_operators w t ms =
    record {
      some = λ xs e z.
          let i = then_inv (members group_of (named w t ms)) _ e in
          let c = cons_inv (group_of w t) (members group_of ms) i.said in
          let q : rows_in i.thing ≡ xs = only_inv (differ same_group i.thing) i.next in
          let l = ap length (sym q ∙ ap rows_in c.is) in
          let k = length-append c.head.rows (rows_in c.tail) in
          group_many w t c.head c.first (omega (arith, l, k, z));
    }

pub condition_inside : Inside condition_of operators_in
unfolding condition_of operators_in members differ rows_in
condition_inside =
    record {
      other = other;
      empty = refl;
      none = refl;
      some = λ w t ms. refl;
      many = many_operators;
    }
  where
    other : (t : Json) → is_object (kind_of t) ≡ false → condition_of t ≡ wrong
    other null e = refl
    other (bool b) e = refl
    other (number w) e = refl
    other (string w) e = refl
    other (list ts) e = refl
    other (object ms) e = never (sym e)
