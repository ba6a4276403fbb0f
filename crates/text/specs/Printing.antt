-- Printing: a tree as bytes, without any space outside strings.
--   printed t    the bytes: of a number its spelling, of a string and a name the raw bytes between quotes
--   Sound t      strings and names of the tree are bodies of strings, numbers are numbers: what printing needs
-- Pinned by: Laws/Printing (what is printed of a sound tree says the tree).
use Rattle.std.specs.Prelude.{Bool, true, false, List, [], ◌∷◌, ◌++◌, ℕ}
use Rattle.chars.specs.Strings.{Unit, Body}
use Rattle.text.specs.Json.{Json, Values, Members, null, bool, number, string, list, object, no_more, also}
use Rattle.text.specs.Json.{no_members, named, Number}

-- between quotes
abbrev pub quoted : List ℕ → List ℕ
quoted w = 34 ∷ (w ++ (34 ∷ []))

-- elements up to the end of their list, and what follows an element; members likewise
unfoldable mutual
  pub printed : Json → List ℕ
  printed null = 110 ∷ 117 ∷ 108 ∷ 108 ∷ []
  printed (bool true) = 116 ∷ 114 ∷ 117 ∷ 101 ∷ []
  printed (bool false) = 102 ∷ 97 ∷ 108 ∷ 115 ∷ 101 ∷ []
  printed (number w) = w
  printed (string w) = quoted w
  printed (list ts) = 91 ∷ printed_elements ts
  printed (object ms) = 123 ∷ printed_members ms

  pub printed_elements : Values → List ℕ
  printed_elements no_more = 93 ∷ []
  printed_elements (also t ts) = printed t ++ printed_rest ts

  pub printed_rest : Values → List ℕ
  printed_rest no_more = 93 ∷ []
  printed_rest (also t ts) = 44 ∷ (printed t ++ printed_rest ts)

  pub printed_members : Members → List ℕ
  printed_members no_members = 125 ∷ []
  printed_members (named w t ms) = quoted w ++ (58 ∷ (printed t ++ printed_more ms))

  pub printed_more : Members → List ℕ
  printed_more no_members = 125 ∷ []
  printed_more (named w t ms) = 44 ∷ (quoted w ++ (58 ∷ (printed t ++ printed_more ms)))

mutual
  pub data Sound : Json → Type 0 where
    sound_null : Sound null
    sound_bool : {b : Bool} → Sound (bool b)
    sound_number : {w : List ℕ} → Number w → Sound (number w)
    sound_string : {w : List ℕ} {us : List Unit} → Body w us → Sound (string w)
    sound_list : {ts : Values} → SoundValues ts → Sound (list ts)
    sound_object : {ms : Members} → SoundMembers ms → Sound (object ms)

  pub data SoundValues : Values → Type 0 where
    sound_no_more : SoundValues no_more
    sound_also : {t : Json} {ts : Values} → Sound t → SoundValues ts → SoundValues (also t ts)

  pub data SoundMembers : Members → Type 0 where
    sound_no_members : SoundMembers no_members
    sound_named : {w : List ℕ} {us : List Unit} {t : Json} {ms : Members} → Body w us → Sound t → SoundMembers ms
        → SoundMembers (named w t ms)
