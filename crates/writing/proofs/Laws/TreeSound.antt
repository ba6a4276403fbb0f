-- The tree of the written form can be printed: strings and names are bodies, and it has six levels at most.
--   tree_sound   of a valid policy
--   tree_depth   of any
use mathlib.Core.Path.{◌≡◌, refl, sym, ap, ◌∙◌, subst}
use mathlib.Core.Bool.{Bool, true, false}
use mathlib.Core.List.{List, [], ◌∷◌, map}
use Prim.Native.Nat.{ℕ, ◌≤◌}
use native.Mathlib.Omega.{arith}
use lib.Dec.{leb}
use borrow.Author.Tests.{leb-true}
use Rattle.chars.specs.Base.{pick}
use Rattle.text.specs.Json.{Json, string, Members, named, depth, depths, depthm}
use Rattle.chars.specs.Written.{Scalars, written, written_text}
use Rattle.chars.specs.Written as W
use Rattle.text.specs.Printing.{Sound, sound_string, sound_list, sound_object, SoundValues, sound_no_more, sound_also}
use Rattle.text.specs.Printing.{SoundMembers, sound_no_members, sound_named}
use Rattle.chars.proofs.Laws.Written.{Tells, text_tells}
use Rattle.text.proofs.Laws.Printing.{written_sound, written_named}
use Rattle.syntax.specs.Policy.{Effect, Allow, Deny, Operator, StringEquals, StringLike, NumericLessThanEquals}
use Rattle.syntax.specs.Policy.{Value, text, number, Row, Statement, Policy}
use Rattle.syntax.specs.Forms.{all, is_sid}
use Rattle.syntax.specs.Words.{version_word, statement_word, edition_word, sid_word, effect_word, action_word}
use Rattle.syntax.specs.Words.{resource_word, condition_word, allow_word, deny_word, string_equals_word, string_like_word}
use Rattle.syntax.specs.Words.{numeric_less_than_equals_word}
use Rattle.syntax.specs.PolicyLayout.{same_operator, Group}
use Rattle.writing.specs.WrittenForm.{bare, values_of, list_of, action_tree, resource_tree, value_tree, joining}
use Rattle.writing.specs.WrittenForm.{grouped, rows_tree, operator_word, groups_tree, effect_name, sid_member}
use Rattle.writing.specs.WrittenForm.{condition_member, statement_tree, tree_of}
use Rattle.writing.specs.Valid.{Each, none, more, Some, first, ValidAction, ValidResource, ValidValue, equals}
use Rattle.writing.specs.Valid.{like, at_most, ValidRow, ValidSid, absent, sid, ValidStatement, Valid}
use Rattle.parts.proofs.Laws.Slots.{both_true}
use Rattle.writing.proofs.Laws.TreeSpelling.{ascii, bare_wildcard, spelled_scalars, scalar_symbols}
use Rattle.writing.proofs.Laws.TreeDigits.{digits_scalars}
use Rattle.writing.proofs.Laws.TreeForms.{action_scalars, sid_scalars, key_scalars}

-- ---- words

word_scalars : (w : List ℕ) → all (λ c. leb c 126) w ≡ true → Scalars w
unfolding all
word_scalars [] e = W.none
word_scalars (c ∷ w) e =
    let p = both_true (leb c 126) (all (λ c. leb c 126) w) e in
    W.more (ascii c (leb-true c 126 p.0)) (word_scalars w p.1)

-- a word that is written as it is
word : (w : List ℕ) → written_text w ≡ w → all (λ c. leb c 126) w ≡ true → Tells w w
word w e k = subst (λ (bs : List ℕ). Tells bs w) e (text_tells (word_scalars w k))

version_word_lem : Tells version_word version_word
unfolding written_text written all
version_word_lem = word version_word refl refl

statement_word_lem : Tells statement_word statement_word
unfolding written_text written all
statement_word_lem = word statement_word refl refl

edition_word_lem : Tells edition_word edition_word
unfolding written_text written all
edition_word_lem = word edition_word refl refl

sid_word_lem : Tells sid_word sid_word
unfolding written_text written all
sid_word_lem = word sid_word refl refl

effect_word_lem : Tells effect_word effect_word
unfolding written_text written all
effect_word_lem = word effect_word refl refl

action_word_lem : Tells action_word action_word
unfolding written_text written all
action_word_lem = word action_word refl refl

resource_word_lem : Tells resource_word resource_word
unfolding written_text written all
resource_word_lem = word resource_word refl refl

condition_word_lem : Tells condition_word condition_word
unfolding written_text written all
condition_word_lem = word condition_word refl refl

effect_name_lem : (e : Effect) → Tells (effect_name e) (effect_name e)
unfolding written_text written all
effect_name_lem Allow = word allow_word refl refl
effect_name_lem Deny = word deny_word refl refl

operator_word_lem : (o : Operator) → Tells (operator_word o) (operator_word o)
unfolding written_text written all
operator_word_lem StringEquals = word string_equals_word refl refl
operator_word_lem StringLike = word string_like_word refl refl
operator_word_lem NumericLessThanEquals = word numeric_less_than_equals_word refl refl

under : {w : List ℕ} {t : Json} {ms : Members} → Tells w w → Sound t → SoundMembers ms → SoundMembers (named w t ms)
under k t ms = sound_named k.body t ms

-- ---- entries

module _ {A : Type 0} (g : A → Json) (P : A → Type 0) (h : (x : A) → P x → Sound (g x)) where
  each_sound : {xs : List A} → Each A P xs → SoundValues (values_of g xs)
  unfolding values_of
  each_sound none = sound_no_more
  each_sound (more {x} p ps) = sound_also (h x p) (each_sound ps)

  some_sound : {xs : List A} → Some A P xs → Sound (list_of g xs)
  some_sound (first p ps) = sound_list (each_sound (more p ps))

action_sound : (ys : List ℕ) → ValidAction ys → Sound (action_tree ys)
unfolding action_tree
action_sound ys v =
    let s = action_scalars v.chars v.right in
    written_sound (subst Scalars (sym (ap (map bare) v.is ∙ bare_wildcard s)) s)

resource_sound : (ys : List ℕ) → ValidResource ys → Sound (resource_tree ys)
unfolding resource_tree
resource_sound ys v = written_sound (spelled_scalars true v.symbols)

value_sound : (o : Operator) (v : Value) → ValidValue o v → Sound (value_tree o v)
unfolding value_tree
value_sound o v (equals s) = written_sound (spelled_scalars false (scalar_symbols s))
value_sound o v (like s) = written_sound (spelled_scalars true s)
value_sound o v (at_most {n} h) = written_sound (digits_scalars n)

-- ---- conditions

rows_sound : {rs : List Row} → Each Row ValidRow rs → SoundMembers (rows_tree rs)
unfolding rows_tree
rows_sound none = sound_no_members
rows_sound (more {x = r} v vs) =
    written_named (key_scalars r.key v.key)
    (some_sound (value_tree r.operator) (ValidValue r.operator) (value_sound r.operator) v.entries)
    (rows_sound vs)

abbrev Right : Group → Type 0
Right g = Each Row ValidRow g.rows

groups_sound : {gs : List Group} → Each Group Right gs → SoundMembers (groups_tree gs)
unfolding groups_tree
groups_sound none = sound_no_members
groups_sound (more {x = g} v vs) =
    under (operator_word_lem g.operator) (sound_object (rows_sound v)) (groups_sound vs)

joining_right : (r : Row) {gs : List Group} → ValidRow r → Each Group Right gs → Each Group Right (joining r gs)
joining_right r v none = more (more v none) none
joining_right r v (more {x = g} {xs = gs} p ps) = by (same_operator r.operator g.operator)
  where
    by : (b : Bool) → Each Group Right (pick b (record { operator = g.operator; rows = r ∷ g.rows } ∷ gs)
        (record { operator = r.operator; rows = r ∷ [] } ∷ g ∷ gs))
    by true = more (more v p) ps
    by false = more (more v none) (more p ps)

grouped_right : {rs : List Row} → Each Row ValidRow rs → Each Group Right (grouped rs)
unfolding grouped
grouped_right none = none
grouped_right (more {x = r} v vs) = joining_right r v (grouped_right vs)

condition_sound : (rs : List Row) → Each Row ValidRow rs → SoundMembers (condition_member rs)
condition_sound [] v = sound_no_members
condition_sound (r ∷ rs) v = under condition_word_lem (sound_object (groups_sound (grouped_right v))) sound_no_members

-- ---- statements and the policy

sid_sound : {cs : List ℕ} {ms : Members} → ValidSid cs → SoundMembers ms → SoundMembers (sid_member cs ms)
sid_sound absent s = s
sid_sound {ms = ms} (sid {cs} e) s = by cs e
  where
    by : (cs : List ℕ) → is_sid cs ≡ true → SoundMembers (sid_member cs ms)
    by [] e = s
    by (c ∷ cs) e = under sid_word_lem (written_sound (sid_scalars (c ∷ cs) e)) s

statement_sound : (s : Statement) → ValidStatement s → Sound (statement_tree s)
unfolding statement_tree
statement_sound s v =
    sound_object (sid_sound v.sid
    (under effect_word_lem (sound_string (effect_name_lem s.effect).body)
    (under action_word_lem (some_sound action_tree ValidAction action_sound v.actions)
    (under resource_word_lem (some_sound resource_tree ValidResource resource_sound v.resources)
    (condition_sound s.rows v.rows.each)))))

pub tree_sound : (p : Policy) → Valid p → Sound (tree_of p)
unfolding tree_of
tree_sound p v =
    sound_object (under version_word_lem (sound_string edition_word_lem.body)
    (under statement_word_lem (some_sound statement_tree ValidStatement statement_sound v.statements)
    sound_no_members))

-- ---- levels

list_depth : {A : Type 0} (g : A → Json) (n : ℕ) → ((x : A) → depth (g x) ≤ n) → (xs : List A)
    → depths (values_of g xs) ≤ n
unfolding depth values_of
list_depth g n h [] = omega arith
list_depth g n h (x ∷ xs) = omega (arith, h x, list_depth g n h xs)

value_depth : (o : Operator) (v : Value) → depth (value_tree o v) ≤ 0
unfolding depth value_tree
value_depth o (text ys) = omega arith
value_depth o (number n) = omega arith

action_depth : (ys : List ℕ) → depth (action_tree ys) ≤ 0
unfolding depth action_tree
action_depth ys = omega arith

resource_depth : (ys : List ℕ) → depth (resource_tree ys) ≤ 0
unfolding depth resource_tree
resource_depth ys = omega arith

rows_depth : (rs : List Row) → depthm (rows_tree rs) ≤ 1
unfolding depth rows_tree
rows_depth [] = omega arith
rows_depth (r ∷ rs) =
    omega (
      arith,
      list_depth (value_tree r.operator) 0 (value_depth r.operator) r.entries,
      rows_depth rs,
    )

groups_depth : (gs : List Group) → depthm (groups_tree gs) ≤ 2
unfolding depth groups_tree
groups_depth [] = omega arith
groups_depth (g ∷ gs) = omega (arith, rows_depth g.rows, groups_depth gs)

condition_depth : (rs : List Row) → depthm (condition_member rs) ≤ 3
unfolding depth
condition_depth [] = omega arith
condition_depth (r ∷ rs) = omega (arith, groups_depth (grouped (r ∷ rs)))

sid_depth : (cs : List ℕ) (ms : Members) (n : ℕ) → depthm ms ≤ n → depthm (sid_member cs ms) ≤ n
unfolding depth
sid_depth [] ms n h = h
sid_depth (c ∷ cs) ms n h = omega arith

statement_depth : (s : Statement) → depth (statement_tree s) ≤ 4
unfolding depth statement_tree
statement_depth s =
    let a = list_depth action_tree 0 action_depth s.actions in
    let r = list_depth resource_tree 0 resource_depth s.resources in
    let c = condition_depth s.rows in
    omega (
      arith,
      sid_depth s.sid (named effect_word (string (effect_name s.effect))
          (named action_word (list_of action_tree s.actions)
          (named resource_word (list_of resource_tree s.resources) (condition_member s.rows)))) 3 (omega arith),
    )

pub tree_depth : (p : Policy) → depth (tree_of p) ≤ 6
unfolding depth tree_of
tree_depth p = omega (arith, list_depth statement_tree 4 statement_depth p)
