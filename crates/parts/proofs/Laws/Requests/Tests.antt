-- The tests of a record's texts, and the types of its context entries.
use mathlib.Core.Path.{◌≡◌, refl, sym, ap}
use mathlib.Core.Bool.{Bool, true, false}
use mathlib.Core.List.{List, [], ◌∷◌}
use Prim.Native.Nat.{ℕ, ◌≤◌, ◌<◌}
use lib.Dec.{eqb, leb}
use lib.ListN.{length}
use borrow.Author.Tests.{le-leb, lt-leb}
use Rattle.chars.specs.Base.{pick}
use Rattle.text.specs.Json.{Json}
use Rattle.syntax.specs.Limits.{entry_characters, key_characters}
use Rattle.syntax.specs.Policy.{Value, text}
use Rattle.syntax.specs.Forms.{Reading, wrong, read, both, either, all, same, is_vendor, is_vendor_char, is_arn}
use Rattle.syntax.specs.Forms.{is_key, number_in}
use Rattle.syntax.specs.Words.{string_type_word, numeric_type_word}
use Rattle.syntax.specs.Members.{only, is_word}
use Rattle.syntax.specs.RecordLayout.{short, is_plain, is_action_name, is_resource_arn, is_key_name, as_number, typed_of}
use Rattle.std.specs.Prelude.{Some, None}
use Rattle.parts.specs.Requests.{type_named, typed_as, number_of_type}
use Rattle.parts.specs.declared.words.ValueType.{ValueType}
use Rattle.parts.specs.declared.words.ValueType.TheVariants as V
use Rattle.syntax.specs.Policy as P
use Rattle.held.specs.Held.{type_number}
use Rattle.parts.proofs.Laws.Fits.{wrong_read, only_inv}

-- ---- characters without wildcards

module _ (c : ℕ) where
  pub plain_vendor : is_vendor_char c ≡ true → true ≡ is_plain c
  unfolding is_plain
  plain_vendor e = rw e

  pub plain_rest : is_vendor_char c ≡ false → eqb c 58 ≡ is_plain c
  unfolding is_plain
  plain_rest e = rw e

-- ---- actions, resources and key names

both_false : (t : Bool) → both t false ≡ false
both_false true = refl
both_false false = refl

module _ (cs : List ℕ) where
  pub action_no : is_vendor cs ≡ false → false ≡ is_action_name cs
  action_no e = rw e

  pub action_wild : is_vendor cs ≡ true → all is_plain cs ≡ false → false ≡ is_action_name cs
  action_wild e f = rw (e, f)

  pub action_short : is_vendor cs ≡ true → all is_plain cs ≡ true → leb (length cs) entry_characters ≡ is_action_name cs
  unfolding short
  action_short e f = rw (e, f)

  pub arn_long : entry_characters < length cs → false ≡ is_resource_arn cs
  unfolding short
  arn_long h = rw (lt-leb (length cs) entry_characters h) (sym (both_false (either (same cs (42 ∷ [])) (is_arn cs))))

  both_true : (t : Bool) → t ≡ both t true
  both_true true = refl
  both_true false = refl

  pub arn_star : length cs ≤ entry_characters → same cs (42 ∷ []) ≡ true → true ≡ is_resource_arn cs
  unfolding short
  arn_star h e = rw (e, le-leb (length cs) entry_characters h)

  pub arn_rest : length cs ≤ entry_characters → same cs (42 ∷ []) ≡ false → is_arn cs ≡ is_resource_arn cs
  unfolding short
  arn_rest h e = rw (e, le-leb (length cs) entry_characters h) (both_true (is_arn cs))

  pub key_no : is_key cs ≡ false → false ≡ is_key_name cs
  key_no e = rw e

  pub key_short : is_key cs ≡ true → leb (length cs) key_characters ≡ is_key_name cs
  key_short e = rw e

-- ---- types

-- the value of a type that is named
typed_by : (a b : Bool) (cs : List ℕ) (k : ValueType) → Some k ≡ pick a (Some V.Text) (pick b (Some V.Number) None)
    → pick a (only (short cs) (text cs)) (pick b (as_number (number_in cs)) wrong) ≡ typed_as k cs
typed_by true b cs V.Text h = refl
typed_by true b cs V.Number h = cc
typed_by false true cs V.Text h = cc
typed_by false true cs V.Number h = refl
typed_by false false cs k h = cc

pub typed_is : (t : Json) (cs : List ℕ) (k : ValueType) → Some k ≡ type_named t → typed_of t cs ≡ typed_as k cs
unfolding typed_of
typed_is t cs k h = typed_by (is_word string_type_word t) (is_word numeric_type_word t) cs k h

typed_not : (a b : Bool) (x y : Reading Value) → pick a (Some V.Text) (pick b (Some V.Number) None) ≡ None
    → pick a x (pick b y wrong) ≡ wrong
typed_not true b x y h = cc
typed_not false true x y h = cc
typed_not false false x y h = refl

pub typed_none : (t : Json) (cs : List ℕ) → type_named t ≡ None → typed_of t cs ≡ wrong
unfolding typed_of
typed_none t cs h =
    typed_not (is_word string_type_word t) (is_word numeric_type_word t) (only (short cs) (text cs)) (as_number
    (number_in cs)) h

module _ (cs : List ℕ) where
  pub typed_text : length cs ≤ entry_characters → typed_as V.Text cs ≡ read (text cs)
  unfolding short
  typed_text h = rw (le-leb (length cs) entry_characters h)

  pub typed_long : entry_characters < length cs → typed_as V.Text cs ≡ wrong
  unfolding short
  typed_long h = rw (lt-leb (length cs) entry_characters h)

-- ---- the number of a type

number_type : (x : Reading ℕ) (v : Value) → as_number x ≡ read v → type_number v ≡ 2
number_type wrong v e = wrong_read e
number_type (read n) v e = let y : P.number n ≡ v = cc in ap type_number (sym y)

pub typed_kind : (k : ValueType) (cs : List ℕ) (v : Value) → typed_as k cs ≡ read v → number_of_type k ≡ type_number v
typed_kind V.Text cs v e = ap type_number (only_inv (short cs) e)
typed_kind V.Number cs v e = sym (number_type (number_in cs) v e)
