-- Members, elements and strings of a text's tree, as both layouts ask for them.
--   characters_of t   the characters of a string; another kind of value or a lone surrogate escape is wrong
--   slot n ms        the value of the member named n: none, one, or that it is repeated
--   known ns ms      every member's name is among ns
--   one_or_more f t    one thing, or a list of at least one, each read by f
--   members f ms     each member read by f, from its raw name and its value
--   differ f xs      no two of the things xs are alike by f
use Rattle.std.specs.Prelude.{Bool, true, false, not, List, [], ◌∷◌, ℕ}
use Rattle.chars.specs.Base.{pick}
use Rattle.text.specs.Json.{Json, null, bool, number, string, list, object, Values, no_more, also, Members}
use Rattle.text.specs.Json.{no_members, named}
use Rattle.chars.specs.Decoding.{text_of, same_text}
use Rattle.syntax.specs.Forms.{Reading, wrong, read, either, both}

abbrev pub then : {A B : Type 0} → Reading A → (A → Reading B) → Reading B
then wrong f = wrong
then (read x) f = f x

-- read as x where the test passes
abbrev pub only : {A : Type 0} → Bool → A → Reading A
only t x = pick t (read x) wrong

-- ---- strings

unfoldable pub characters : List ℕ → Reading (List ℕ)
characters w = only (text_of w).sound (text_of w).chars

abbrev pub characters_of : Json → Reading (List ℕ)
characters_of null = wrong
characters_of (bool b) = wrong
characters_of (number w) = wrong
characters_of (string w) = characters w
characters_of (list ts) = wrong
characters_of (object ms) = wrong

-- a string that is this word
unfoldable pub is_word : List ℕ → Json → Bool
is_word n null = false
is_word n (bool b) = false
is_word n (number w) = false
is_word n (string w) = same_text (text_of w) n
is_word n (list ts) = false
is_word n (object ms) = false

-- ---- members

pub data Slot : Type 0 where
  none many : Slot
  one : Json → Slot

-- another member of the same name stands before those of the slot
abbrev pub again : Json → Slot → Slot
again t none = one t
again t many = many
again t (one u) = many

unfoldable pub slot : List ℕ → Members → Slot
slot n no_members = none
slot n (named w t ms) = pick (same_text (text_of w) n) (again t (slot n ms)) (slot n ms)

unfoldable pub is_among : List (List ℕ) → List ℕ → Bool
is_among [] w = false
is_among (n ∷ ns) w = either (same_text (text_of w) n) (is_among ns w)

unfoldable pub known : List (List ℕ) → Members → Bool
known ns no_members = true
known ns (named w t ms) = both (is_among ns w) (known ns ms)

-- a member that has to be there; one that may be absent, which then is d
abbrev pub required : {A : Type 0} → (Json → Reading A) → Slot → Reading A
required f none = wrong
required f many = wrong
required f (one t) = f t

abbrev pub optional : {A : Type 0} → A → (Json → Reading A) → Slot → Reading A
optional d f none = read d
optional d f many = wrong
optional d f (one t) = f t

-- ---- elements

abbrev pub cons : {A : Type 0} → Reading A → Reading (List A) → Reading (List A)
cons wrong xs = wrong
cons (read x) wrong = wrong
cons (read x) (read xs) = read (x ∷ xs)

unfoldable pub each : {A : Type 0} → (Json → Reading A) → Values → Reading (List A)
each f no_more = read []
each f (also t ts) = cons (f t) (each f ts)

-- of at least one
unfoldable pub some : {A : Type 0} → (Json → Reading A) → Values → Reading (List A)
some f no_more = wrong
some f (also t ts) = each f (also t ts)

unfoldable pub one_or_more : {A : Type 0} → (Json → Reading A) → Json → Reading (List A)
one_or_more f null = cons (f null) (read [])
one_or_more f (bool b) = cons (f (bool b)) (read [])
one_or_more f (number w) = cons (f (number w)) (read [])
one_or_more f (string w) = cons (f (string w)) (read [])
one_or_more f (list ts) = some f ts
one_or_more f (object ms) = cons (f (object ms)) (read [])

unfoldable pub members : {A : Type 0} → (List ℕ → Json → Reading A) → Members → Reading (List A)
members f no_members = read []
members f (named w t ms) = cons (f w t) (members f ms)

-- ---- repeats

unfoldable pub has_like : {A : Type 0} → (A → A → Bool) → A → List A → Bool
has_like f x [] = false
has_like f x (y ∷ ys) = either (f x y) (has_like f x ys)

unfoldable pub differ : {A : Type 0} → (A → A → Bool) → List A → Bool
differ f [] = true
differ f (x ∷ xs) = both (not (has_like f x xs)) (differ f xs)

-- things of which no two are alike
abbrev pub differing : {A : Type 0} → (A → A → Bool) → List A → Reading (List A)
differing f xs = only (differ f xs) xs
