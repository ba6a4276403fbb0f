-- JSON: RFC 8259, sections 2 to 6, rule by rule, on the bytes of a text s from one place up to another; what it says.
--   Json             the tree: a number by its spelling, a string by its raw bytes, members in order, repeats kept
--   Number w         the bytes w are a `number`
--   Quoted s w a e   a `string`, from place a up to place e, with the bytes w between its quotes
--   Space s a e      `ws`              Reads s p a e   the piece p
--   JsonText s t     `JSON-text`       depth t         levels, the outermost list or object being level 1
-- Differs from the RFC: white space, which its structural characters carry on both sides, stands once, in front of what
-- follows it, so that a value has one first place. The texts are the same.
use Rattle.std.specs.Prelude.{◌≡◌, Bool, true, false, List, [], ◌∷◌, ◌++◌, ℕ, suc, ◌+◌, ◌≤◌, max, length}
use Rattle.chars.specs.Base.{In, At, part}
use Rattle.chars.specs.Strings.{Unit, Body}

-- ---- what a text says

mutual
  pub data Json : Type 0 where
    null : Json
    bool : Bool → Json
    number string : List ℕ → Json
    list : Values → Json
    object : Members → Json

  pub data Values : Type 0 where
    no_more : Values
    also : Json → Values → Values

  -- a name as it stands between its quotes, and its value
  pub data Members : Type 0 where
    no_members : Members
    named : List ℕ → Json → Members → Members

unfoldable mutual
  pub depth : Json → ℕ
  depth null = 0
  depth (bool b) = 0
  depth (number w) = 0
  depth (string w) = 0
  depth (list ts) = suc (depths ts)
  depth (object ms) = suc (depthm ms)

  pub depths : Values → ℕ
  depths no_more = 0
  depths (also t ts) = max (depth t) (depths ts)

  pub depthm : Members → ℕ
  depthm no_members = 0
  depthm (named w t ms) = max (depth t) (depthm ms)

-- levels that a text may have
abbrev pub levels : ℕ
levels = 16

-- ---- ws

pub data White : ℕ → Type 0 where
  tab : White 9
  line_feed : White 10
  carriage_return : White 13
  space : White 32

pub data Space (s : List ℕ) : ℕ → ℕ → Type 0 where
  no_space : {a : ℕ} → a ≤ length s → Space s a a
  white : {a b e : ℕ} → At s a b → White b → Space s (a + 1) e → Space s a e

-- ---- number

-- *DIGIT and 1*DIGIT
pub data Digits : List ℕ → Type 0 where
  no_digit : Digits []
  digit : {d : ℕ} {ds : List ℕ} → In 48 57 d → Digits ds → Digits (d ∷ ds)

pub data Digits₁ : List ℕ → Type 0 where
  digits : {d : ℕ} {ds : List ℕ} → In 48 57 d → Digits ds → Digits₁ (d ∷ ds)

pub data Int : List ℕ → Type 0 where
  zero : Int (48 ∷ [])
  from_1_9 : {d : ℕ} {ds : List ℕ} → In 49 57 d → Digits ds → Int (d ∷ ds)

-- [ frac ] and [ exp ]
pub data Frac : List ℕ → Type 0 where
  no_frac : Frac []
  frac : {ds : List ℕ} → Digits₁ ds → Frac (46 ∷ ds)

pub data Sign : List ℕ → Type 0 where
  no_sign : Sign []
  plus : Sign (43 ∷ [])
  minus : Sign (45 ∷ [])

pub data Exp : List ℕ → Type 0 where
  no_exp : Exp []
  upper : {w ds : List ℕ} → Sign w → Digits₁ ds → Exp (69 ∷ (w ++ ds))
  lower : {w ds : List ℕ} → Sign w → Digits₁ ds → Exp (101 ∷ (w ++ ds))

pub data Number : List ℕ → Type 0 where
  unsigned : {i f x : List ℕ} → Int i → Frac f → Exp x → Number (i ++ (f ++ x))
  negative : {i f x : List ℕ} → Int i → Frac f → Exp x → Number (45 ∷ (i ++ (f ++ x)))

-- ---- values

-- the bytes of s from a up to e are w
pub record Spelt (s w : List ℕ) (a e : ℕ) : Type 0 where
  pub order : a ≤ e
  pub inside : e ≤ length s
  pub is : part s a e ≡ w

-- string: quotation-mark *char quotation-mark
pub record Quoted (s w : List ℕ) (a e : ℕ) : Type 0 where
  pub opens : At s a 34
  pub close : ℕ
  pub units : List Unit
  pub spelt : Spelt s w (a + 1) close
  pub body : Body w units
  pub closes : At s close 34
  pub past : e ≡ close + 1

-- a value; elements up to the end of their list, and what follows an element; members likewise
pub data Piece : Type 0 where
  a_value : Json → Piece
  elements rest : Values → Piece
  members more : Members → Piece

pub data Reads (s : List ℕ) : Piece → ℕ → ℕ → Type 0 where
  -- null / true / false / number / string
  a_null : {i e : ℕ} → Spelt s (110 ∷ 117 ∷ 108 ∷ 108 ∷ []) i e → Reads s (a_value null) i e
  a_true : {i e : ℕ} → Spelt s (116 ∷ 114 ∷ 117 ∷ 101 ∷ []) i e → Reads s (a_value (bool true)) i e
  a_false : {i e : ℕ} → Spelt s (102 ∷ 97 ∷ 108 ∷ 115 ∷ 101 ∷ []) i e → Reads s (a_value (bool false)) i e
  a_number : {i e : ℕ} {w : List ℕ} → Spelt s w i e → Number w → Reads s (a_value (number w)) i e
  a_string : {i e : ℕ} {w : List ℕ} → Quoted s w i e → Reads s (a_value (string w)) i e
  -- array: [ ws ] or [ ws value *( ws , ws value ) ws ]
  empty_list : {i j : ℕ} → At s i 91 → Space s (i + 1) j → At s j 93 → Reads s (a_value (list no_more)) i (j + 1)
  some_list : {i j e : ℕ} {ts : Values} → At s i 91 → Space s (i + 1) j → Reads s (elements ts) j e
      → Reads s (a_value (list ts)) i e
  element : {i j e : ℕ} {t : Json} {ts : Values} → Reads s (a_value t) i j → Reads s (rest ts) j e
      → Reads s (elements (also t ts)) i e
  close_list : {i j : ℕ} → Space s i j → At s j 93 → Reads s (rest no_more) i (j + 1)
  comma_list : {i j k e : ℕ} {ts : Values} → Space s i j → At s j 44 → Space s (j + 1) k → Reads s (elements ts) k e
      → Reads s (rest ts) i e
  -- object: { ws } or { ws member *( ws , ws member ) ws }; member: string ws : ws value
  empty_object : {i j : ℕ} → At s i 123 → Space s (i + 1) j → At s j 125
      → Reads s (a_value (object no_members)) i (j + 1)
  some_object : {i j e : ℕ} {ms : Members} → At s i 123 → Space s (i + 1) j → Reads s (members ms) j e
      → Reads s (a_value (object ms)) i e
  member : {i q c v j e : ℕ} {w : List ℕ} {t : Json} {ms : Members} → Quoted s w i q → Space s q c → At s c 58
      → Space s (c + 1) v → Reads s (a_value t) v j → Reads s (more ms) j e → Reads s (members (named w t ms)) i e
  close_object : {i j : ℕ} → Space s i j → At s j 125 → Reads s (more no_members) i (j + 1)
  comma_object : {i j k e : ℕ} {ms : Members} → Space s i j → At s j 44 → Space s (j + 1) k → Reads s (members ms) k e
      → Reads s (more ms) i e

-- JSON-text: ws value ws
pub record JsonText (s : List ℕ) (t : Json) : Type 0 where
  pub from : ℕ
  pub past : ℕ
  pub before : Space s 0 from
  pub reads : Reads s (a_value t) from past
  pub after : Space s past (length s)
