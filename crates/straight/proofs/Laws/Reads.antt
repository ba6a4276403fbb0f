-- What stands between values joins them to lists and objects: derivations of the grammar, built from the right.
use mathlib.Core.Path.{sym, subst}
use mathlib.Core.List.{List, ◌++◌}
use Prim.Native.Nat.{ℕ, ◌≤◌, ◌<◌}
use native.Mathlib.Omega.{arith}
use lib.ListN.{length, length-append}
use Rattle.text.specs.Json.{Json, Values, Members, no_more, also, no_members, named, list, object, Space, no_space}
use Rattle.text.specs.Json.{white, Int, zero, from_1_9, Number, unsigned, negative, Quoted, Piece, a_value, elements}
use Rattle.text.specs.Json.{rest, members, more, Reads, a_null, a_true, a_false, a_number, a_string, empty_list}
use Rattle.text.specs.Json.{some_list, element, close_list, comma_list, empty_object, some_object, member, close_object}
use Rattle.text.specs.Json.{comma_object}
use Rattle.text.proofs.Laws.Parts.{spelt_length}
use Rattle.text.proofs.Laws.Spaces.{space_low}
use Rattle.straight.specs.Marks.{Opened, Closed, Parted, Named, First, Next}

-- ---- where pieces end

int_some : {w : List ℕ} → Int w → 0 < length w
int_some zero = omega arith
int_some (from_1_9 d ds) = omega arith

number_some : {w : List ℕ} → Number w → 0 < length w
number_some (unsigned {i} {f} {x} a b c) = omega (arith, int_some a, length-append i (f ++ x))
number_some (negative a b c) = omega arith

space_inside : {s : List ℕ} {i e : ℕ} → Space s i e → e ≤ length s
space_inside (no_space h) = h
space_inside (white p v r) = space_inside r

quoted_later : {s w : List ℕ} {i e : ℕ} → Quoted s w i e → i < e
quoted_later q = omega (arith, q.past, q.spelt.order)

pub quoted_inside : {s w : List ℕ} {i e : ℕ} → Quoted s w i e → e ≤ length s
quoted_inside q = omega (arith, q.past, q.closes.inside)

module _ {s : List ℕ} where
  pub reads_inside : {p : Piece} {i e : ℕ} → Reads s p i e → e ≤ length s
  reads_inside (a_null p) = p.inside
  reads_inside (a_true p) = p.inside
  reads_inside (a_false p) = p.inside
  reads_inside (a_number p w) = p.inside
  reads_inside (a_string q) = quoted_inside q
  reads_inside (empty_list o w p) = omega (arith, p.inside)
  reads_inside (some_list o w r) = reads_inside r
  reads_inside (element v r) = reads_inside r
  reads_inside (close_list w p) = omega (arith, p.inside)
  reads_inside (comma_list w o x r) = reads_inside r
  reads_inside (empty_object o w p) = omega (arith, p.inside)
  reads_inside (some_object o w r) = reads_inside r
  reads_inside (member q w o x v r) = reads_inside r
  reads_inside (close_object w p) = omega (arith, p.inside)
  reads_inside (comma_object w o x r) = reads_inside r

  pub reads_later : {p : Piece} {i e : ℕ} → Reads s p i e → i < e
  reads_later (a_null p) = omega (arith, spelt_length p)
  reads_later (a_true p) = omega (arith, spelt_length p)
  reads_later (a_false p) = omega (arith, spelt_length p)
  reads_later (a_number p w) = omega (arith, spelt_length p, number_some w)
  reads_later (a_string q) = quoted_later q
  reads_later (empty_list o w p) = omega (arith, space_low w)
  reads_later (some_list o w r) = omega (arith, space_low w, reads_later r)
  reads_later (element v r) = omega (arith, reads_later v, reads_later r)
  reads_later (close_list w p) = omega (arith, space_low w)
  reads_later (comma_list w o x r) = omega (arith, space_low w, space_low x, reads_later r)
  reads_later (empty_object o w p) = omega (arith, space_low w)
  reads_later (some_object o w r) = omega (arith, space_low w, reads_later r)
  reads_later (member q w o x v r) =
      omega (arith, quoted_later q, space_low w, space_low x, reads_later v, reads_later r)
  reads_later (close_object w p) = omega (arith, space_low w)
  reads_later (comma_object w o x r) = omega (arith, space_low w, space_low x, reads_later r)

-- ---- white space in two parts

pub space_join : {s : List ℕ} {i j e : ℕ} → Space s i j → Space s j e → Space s i e
space_join (no_space h) w = w
space_join (white p v r) w = white p v (space_join r w)

-- ---- places of marks

module _ {s : List ℕ} {b i r : ℕ} where
  pub opened_inside : Opened s b i r → r ≤ length s
  opened_inside o = space_inside o.space

  pub closed_inside : Closed s b i r → r ≤ length s
  closed_inside c = omega (arith, c.past, c.at.inside)

  pub parted_inside : Parted s b i r → r ≤ length s
  parted_inside c = space_inside c.after

  pub parted_later : Parted s b i r → i < r
  parted_later c = omega (arith, space_low c.before, space_low c.after)

module _ {s w : List ℕ} {i r : ℕ} where
  pub named_later : Named s w i r → i < r
  named_later n = omega (arith, quoted_later n.name, parted_later n.colon)

-- ---- lists

module _ {s : List ℕ} where
  pub list_none : {v i e : ℕ} → Opened s 91 v i → Closed s 93 i e → Reads s (a_value (list no_more)) v e
  list_none {v} o c =
      subst (λ (z : ℕ). Reads s (a_value (list no_more)) v z) (sym c.past)
      (empty_list o.at (space_join o.space c.space) c.at)

  pub list_last : {i e : ℕ} → Closed s 93 i e → Reads s (rest no_more) i e
  list_last {i} c = subst (λ (z : ℕ). Reads s (rest no_more) i z) (sym c.past) (close_list c.space c.at)

  pub list_next : {i j e : ℕ} {ts : Values} → Parted s 44 i j → Reads s (elements ts) j e → Reads s (rest ts) i e
  list_next c r = comma_list c.before c.at c.after r

  pub list_some : {v i e : ℕ} {ts : Values} → Opened s 91 v i → Reads s (elements ts) i e
      → Reads s (a_value (list ts)) v e
  list_some o r = some_list o.at o.space r

  -- of one element
  pub list_sole : {v i j e : ℕ} {t : Json} → Opened s 91 v i → Reads s (a_value t) i j → Closed s 93 j e
      → Reads s (a_value (list (also t no_more))) v e
  list_sole o r c = list_some o (element r (list_last c))

-- ---- objects

module _ {s : List ℕ} where
  pub object_last : {i e : ℕ} → Closed s 125 i e → Reads s (more no_members) i e
  object_last {i} c =
      subst (λ (z : ℕ). Reads s (more no_members) i z) (sym c.past) (close_object c.space c.at)

  pub object_next : {i j e : ℕ} {ms : Members} → Parted s 44 i j → Reads s (members ms) j e → Reads s (more ms) i e
  object_next c r = comma_object c.before c.at c.after r

  pub object_some : {v i e : ℕ} {ms : Members} → Opened s 123 v i → Reads s (members ms) i e
      → Reads s (a_value (object ms)) v e
  object_some o r = some_object o.at o.space r

  -- a member by its name and colon
  pub member_is : {w : List ℕ} {i v j e : ℕ} {t : Json} {ms : Members} → Named s w i v → Reads s (a_value t) v j
      → Reads s (more ms) j e → Reads s (members (named w t ms)) i e
  member_is n r m = member n.name n.colon.before n.colon.at n.colon.after r m

  pub first_reads : {w : List ℕ} {v i j e : ℕ} {t : Json} {ms : Members} → First s w v i → Reads s (a_value t) i j
      → Reads s (more ms) j e → Reads s (a_value (object (named w t ms))) v e
  first_reads f r m = object_some f.opened (member_is f.named r m)

  pub next_reads : {w : List ℕ} {v i j e : ℕ} {t : Json} {ms : Members} → Next s w v i → Reads s (a_value t) i j
      → Reads s (more ms) j e → Reads s (more (named w t ms)) v e
  next_reads f r m = object_next f.comma (member_is f.named r m)
