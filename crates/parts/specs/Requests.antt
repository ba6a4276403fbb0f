-- Requests: what the functions that hold a record cite, beside the record layout.
--   Placing            a member is absent or stands at a place
--   type_of x           the type that a member names, if it names one
--   number_of_type k    the number that stands for a type in a held run: 1 a text, 2 a number
--   TypesTo t e r      the type that t names, which ends at e
--   typed_as k cs       the value of type k that characters say
use Rattle.std.specs.Prelude.{◌≡◌, List, ℕ, Option, Some, None}
use Rattle.chars.specs.Base.{pick}
use Rattle.text.specs.Json.{Json}
use Rattle.syntax.specs.Policy.{Value, text}
use Rattle.syntax.specs.Forms.{Reading, number_in}
use Rattle.syntax.specs.Words.{string_type_word, numeric_type_word}
use Rattle.syntax.specs.Members.{Slot, none, many, one, only, is_word}
use Rattle.parts.specs.Slots.{Placed}
use Rattle.syntax.specs.RecordLayout.{short, as_number}
use Rattle.parts.specs.declared.words.Typed.{Typed}
use Rattle.parts.specs.declared.words.ValueType.{ValueType}
use Rattle.parts.specs.declared.words.ValueType.TheVariants as V

-- ---- members

pub record Placing (s : List ℕ) (v : ℕ) : Type 0 where
  pub what : Slot
  pub is : Placed s v what

-- ---- types of a context entry

abbrev pub type_named : Json → Option ValueType
type_named t = pick (is_word string_type_word t) (Some V.Text) (pick (is_word numeric_type_word t) (Some V.Number) None)

abbrev pub type_of : Slot → Option ValueType
type_of none = None
type_of many = None
type_of (one t) = type_named t

abbrev pub number_of_type : ValueType → ℕ
number_of_type V.Text = 1
number_of_type V.Number = 2

pub record Names (t : Json) (e : ℕ) (r : Typed) : Type 0 where
  pub is : Some r.kind ≡ type_named t
  pub ends : r.end ≡ e

abbrev pub TypesTo : Json → ℕ → Option Typed → Type 0
TypesTo t e (Some r) = Names t e r
TypesTo t e None = type_named t ≡ None

abbrev pub typed_as : ValueType → List ℕ → Reading Value
typed_as V.Text cs = only (short cs) (text cs)
typed_as V.Number cs = as_number (number_in cs)
