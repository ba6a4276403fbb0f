-- What stands at a place of a text, for whoever walks over a whole text in place. One value stands at a place, up to one
-- end: laws `stands_unique` and `contents_is` of Laws/Contents.
--   Ends s e          no number goes on at place e
--   Stands s t v e    the value t stands from place v up to place e
--   Rest s ts i e     behind an element that ends at i, the elements ts, up to the end of their list at e
--   Others s ms i e   behind a member that ends at i, the members ms, up to the end of their object at e
use Rattle.std.specs.Prelude.{◌≡◌, true, false, List, ℕ, ◌+◌, ◌≤◌, ◌<◌, length}
use Rattle.chars.specs.Base.{In, At, part}
use Rattle.text.specs.Json.{Json, Values, Members, null, bool, number, string, list, object, no_more, also}
use Rattle.text.specs.Json.{no_members, named, depth, depths, depthm, levels, a_value, rest, members, more}
use Rattle.text.specs.Json.{Reads, JsonText}
use Rattle.text.specs.declared.walk.Kind.{Kind}
use Rattle.text.specs.declared.walk.Kind.TheVariants.{Null, True, False, Number, Text, List as AList}
use Rattle.text.specs.declared.walk.Kind.TheVariants.{Object as AnObject}
use Rattle.text.specs.declared.walk.Span.{Span}
use Rattle.text.specs.declared.walk.Element.{Element}
use Rattle.text.specs.declared.walk.Element.TheVariants as E
use Rattle.text.specs.declared.walk.Member.{Member}
use Rattle.text.specs.declared.walk.Member.TheVariants as M

pub data Ends (s : List ℕ) (e : ℕ) : Type 0 where
  with_text : e ≡ length s → Ends s e
  before : {b : ℕ} → At s e b → (In 48 57 b → ⊥) → (b ≡ 46 → ⊥) → (b ≡ 69 → ⊥) → (b ≡ 101 → ⊥) → Ends s e

pub record Stands (s : List ℕ) (t : Json) (v e : ℕ) : Type 0 where
  pub reads : Reads s (a_value t) v e
  pub ends : Ends s e
  pub shallow : depth t ≤ levels

pub record Rest (s : List ℕ) (ts : Values) (i e : ℕ) : Type 0 where
  pub reads : Reads s (rest ts) i e
  pub shallow : depths ts ≤ levels

pub record Others (s : List ℕ) (ms : Members) (i e : ℕ) : Type 0 where
  pub reads : Reads s (more ms) i e
  pub shallow : depthm ms ≤ levels

-- members from the opening quote of the first one's name
pub record Entry (s : List ℕ) (ms : Members) (i e : ℕ) : Type 0 where
  pub reads : Reads s (members ms) i e
  pub shallow : depthm ms ≤ levels

-- ---- that something stands there: what the walkers ask

-- x, up to a place, is as P says
pub record Some (A : Type 0) (P : A → ℕ → Type 0) : Type 0 where
  pub what : A
  pub stop : ℕ
  pub is : P what stop

abbrev pub Standing : List ℕ → ℕ → Type 0
Standing s v = Some Json (λ t e. Stands s t v e)

abbrev pub StandingText : List ℕ → ℕ → Type 0
StandingText s v = Some (List ℕ) (λ w e. Stands s (string w) v e)

abbrev pub StandingList : List ℕ → ℕ → Type 0
StandingList s v = Some Values (λ ts e. Stands s (list ts) v e)

abbrev pub StandingObject : List ℕ → ℕ → Type 0
StandingObject s v = Some Members (λ ms e. Stands s (object ms) v e)

abbrev pub Resting : List ℕ → ℕ → Type 0
Resting s i = Some Values (λ ts e. Rest s ts i e)

abbrev pub Continuing : List ℕ → ℕ → Type 0
Continuing s i = Some Members (λ ms e. Others s ms i e)

abbrev pub Entering : List ℕ → ℕ → Type 0
Entering s i = Some Members (λ ms e. Entry s ms i e)

-- ---- what the walkers answer

abbrev pub kind_of : Json → Kind
kind_of null = Null
kind_of (bool true) = True
kind_of (bool false) = False
kind_of (number w) = Number
kind_of (string w) = Text
kind_of (list ts) = AList
kind_of (object ms) = AnObject

-- the raw part w of a string that ends at e
pub record Raw (s w : List ℕ) (e : ℕ) (r : Span) : Type 0 where
  pub is : part s r.from r.to ≡ w
  pub order : r.from ≤ r.to
  pub inside : r.to < length s
  pub past : r.to + 1 ≡ e

-- of the elements ts, up to e, the first stands at v, past i
pub record First (s : List ℕ) (i : ℕ) (ts : Values) (e v : ℕ) : Type 0 where
  pub head : Json
  pub tail : Values
  pub is : ts ≡ also head tail
  pub stop : ℕ
  pub stands : Stands s head v stop
  pub follows : Rest s tail stop e
  pub later : i < v

abbrev pub Comes : List ℕ → ℕ → Values → ℕ → Element → Type 0
Comes s i ts e (E.At v) = First s i ts e v
Comes s i ts e (E.Past p) = (ts ≡ no_more) × (p ≡ e)

-- of the members ms, up to e, the first has its raw name from n up to m and its value at v, past i
pub record Leader (s : List ℕ) (i : ℕ) (ms : Members) (e n m v : ℕ) : Type 0 where
  pub head : Json
  pub tail : Members
  pub is : ms ≡ named (part s n m) head tail
  pub order : n ≤ m
  pub inside : m < length s
  pub stop : ℕ
  pub stands : Stands s head v stop
  pub follows : Others s tail stop e
  pub later : i < v

abbrev pub Leads : List ℕ → ℕ → Members → ℕ → Member → Type 0
Leads s i ms e (M.Named n m v) = Leader s i ms e n m v
Leads s i ms e (M.Past p) = (ms ≡ no_members) × (p ≡ e)

-- the value of the whole text stands at r
pub record Rooted (s : List ℕ) (r : ℕ) : Type 0 where
  pub stop : ℕ
  pub stands : (t : Json) → JsonText s t → Stands s t r stop
