-- The twin of the grammar that the code equals: it takes one byte at a time, over a stack of items still owed.
-- Nothing here need be believed: Laws/Meaning proves that `verdict` says what specs/Verdicts means.
--   move x b       what item x does with byte b
--   run k bs at    the verdict on the bytes bs, which begin at place `at`, where the stack k is owed
--   verdict s      the verdict on a whole text of at most sixteen levels
use Rattle.std.specs.Prelude.{Ok, Err, Bool, true, false, List, [], ◌∷◌, ◌++◌, map, ℕ, zero, suc, ◌+◌, eqb, drop, replicate}
use Rattle.chars.specs.Base.{pick, within, one_of}
use Rattle.text.specs.Json.{levels}
use Rattle.text.specs.declared.scan.Shape.{Shape}
use Rattle.text.specs.declared.scan.Shape.TheVariants.{List as list, Object as object}
use Rattle.text.specs.Verdicts.{Verdict}
use Rattle.text.specs.declared.fault.Fault.TheVariants.{Breaks, Deep}

pub data Item : Type 0 where
  -- white space of any length; this byte; a byte from the first to the second; a hexadecimal digit
  ws : Item
  byte : ℕ → Item
  range : ℕ → ℕ → Item
  hex : Item
  -- the rest of a string with its closing quote; one character of it; what follows a reverse solidus
  text char escape : Item
  -- digits of any number; one digit; a number behind its minus; what may follow an integer, a fraction; a sign or none
  digits digit integer fraction exponent sign : Item
  -- a value that opens at most so many levels
  value : ℕ → Item
  -- behind an opening bracket or brace; behind an inner value
  first next : Shape → ℕ → Item

-- an item is done before the byte, refuses it, finds it a level too deep, or takes it and owes other items
pub data Move : Type 0 where
  pass bad deep : Move
  go : List Item → Move

abbrev pub opener : Shape → ℕ
opener list = 91
opener object = 123

abbrev pub close : Shape → ℕ
close list = 93
close object = 125

-- what stands before an inner value: in an object a name in quotes and a colon
abbrev pub before : Shape → List Item
before list = []
before object = byte 34 ∷ text ∷ ws ∷ byte 58 ∷ ws ∷ []

-- an inner value and all that follows it in its list or object
abbrev pub inner : Shape → ℕ → List Item
inner sh n = value n ∷ ws ∷ next sh n ∷ []

-- the letters of an escape of two characters
abbrev pub letters : List ℕ
letters = 34 ∷ 47 ∷ 92 ∷ 98 ∷ 102 ∷ 110 ∷ 114 ∷ 116 ∷ []

-- a byte of its own range and so many tails
abbrev pub sequence : ℕ → ℕ → ℕ → Move
sequence lo hi n = go (range lo hi ∷ replicate n (range 128 191))

-- what the first byte of a sequence of several bytes owes
unfoldable pub high : ℕ → Move
high b =
    pick (within 194 223 b) (sequence 128 191 0)
    (pick (eqb b 224) (sequence 160 191 1)
    (pick (eqb b 237) (sequence 128 159 1)
    (pick (within 225 239 b) (sequence 128 191 1)
    (pick (eqb b 240) (sequence 144 191 2)
    (pick (within 241 243 b) (sequence 128 191 2)
    (pick (eqb b 244) (sequence 128 143 2) bad))))))

-- what the first byte of a character owes; that a quote is none is `text`'s affair
unfoldable pub leads : ℕ → Move
leads b = pick (eqb b 92) (go (escape ∷ [])) (pick (within 32 127 b) (go []) (high b))

-- a move with other items owed behind it
abbrev pub owing : Move → List Item → Move
owing pass k = pass
owing bad k = bad
owing deep k = deep
owing (go xs) k = go (xs ++ k)

-- a level is opened, if any is left
abbrev pub opens : Shape → ℕ → Move
opens sh zero = deep
opens sh (suc n) = go (ws ∷ first sh n ∷ [])

abbrev pub move_integer : ℕ → Move
move_integer b = pick (eqb b 48) (go (fraction ∷ [])) (pick (within 49 57 b) (go (digits ∷ fraction ∷ [])) bad)

abbrev pub move_exponent : ℕ → Move
move_exponent b = pick (one_of (69 ∷ 101 ∷ []) b) (go (sign ∷ digit ∷ digits ∷ [])) pass

-- how a byte begins a value
unfoldable pub begins : ℕ → ℕ → Move
begins n b =
    pick (eqb b 34) (go (text ∷ []))
    (pick (eqb b 45) (go (integer ∷ []))
    (pick (within 48 57 b) (move_integer b)
    (pick (eqb b 91) (opens list n)
    (pick (eqb b 102) (go (map byte (97 ∷ 108 ∷ 115 ∷ 101 ∷ [])))
    (pick (eqb b 110) (go (map byte (117 ∷ 108 ∷ 108 ∷ [])))
    (pick (eqb b 116) (go (map byte (114 ∷ 117 ∷ 101 ∷ [])))
    (pick (eqb b 123) (opens object n) bad)))))))

-- the first byte of the first inner value, or of its name
abbrev pub enters : Shape → ℕ → ℕ → Move
enters list n b = owing (begins n b) (ws ∷ next list n ∷ [])
enters object n b = pick (eqb b 34) (go (text ∷ ws ∷ byte 58 ∷ ws ∷ inner object n)) bad

unfoldable pub move : Item → ℕ → Move
move ws b = pick (within 9 10 b) (go (ws ∷ [])) (pick (one_of (13 ∷ 32 ∷ []) b) (go (ws ∷ [])) pass)
move (byte x) b = pick (eqb b x) (go []) bad
move (range lo hi) b = pick (within lo hi b) (go []) bad
move hex b = pick (within 48 57 b) (go []) (pick (within 65 70 b) (go []) (pick (within 97 102 b) (go []) bad))
move text b = pick (eqb b 34) (go []) (owing (leads b) (text ∷ []))
move char b = leads b
move escape b = pick (one_of letters b) (go []) (pick (eqb b 117) (go (replicate 4 hex)) bad)
move digits b = pick (within 48 57 b) (go (digits ∷ [])) pass
move digit b = pick (within 48 57 b) (go []) bad
move integer b = move_integer b
move fraction b = pick (eqb b 46) (go (digit ∷ digits ∷ exponent ∷ [])) (move_exponent b)
move exponent b = move_exponent b
move sign b = pick (one_of (43 ∷ 45 ∷ []) b) (go []) pass
move (value n) b = begins n b
move (first sh n) b = pick (eqb b (close sh)) (go []) (enters sh n b)
move (next sh n) b = pick (eqb b (close sh)) (go []) (pick (eqb b 44) (go (ws ∷ (before sh ++ inner sh n))) bad)

-- may an item be left out
unfoldable pub optional : Item → Bool
optional ws = true
optional (byte x) = false
optional (range lo hi) = false
optional hex = false
optional text = false
optional char = false
optional escape = false
optional digits = true
optional digit = false
optional integer = false
optional fraction = true
optional exponent = true
optional sign = true
optional (value n) = false
optional (first sh n) = false
optional (next sh n) = false

-- what a stack does with a byte: `below` is what the items under the first do
abbrev pub onto : Move → List Item → Move → Move
onto pass k below = below
onto bad k below = bad
onto deep k below = deep
onto (go xs) k below = go (xs ++ k)

unfoldable pub feed : List Item → ℕ → Move
feed [] b = bad
feed (x ∷ k) b = onto (move x b) k (feed k b)

unfoldable pub ends : List Item → Bool
ends [] = true
ends (x ∷ k) = pick (optional x) (ends k) false

abbrev pub after : Move → ℕ → (List Item → Verdict) → Verdict
after pass at f = Err (Breaks at)
after bad at f = Err (Breaks at)
after deep at f = Err Deep
after (go k) at f = f k

unfoldable pub run : List Item → List ℕ → ℕ → Verdict
run k [] at = pick (ends k) (Ok tt) (Err (Breaks at))
run k (b ∷ bs) at = after (feed k b) at (λ l. run l bs (at + 1))

-- from a place of a text on
unfoldable pub from : List Item → List ℕ → ℕ → Verdict
from k s at = run k (drop at s) at

-- the verdict on a whole text of at most n levels
unfoldable pub verdict_at : ℕ → List ℕ → Verdict
verdict_at n s = from (ws ∷ value n ∷ ws ∷ []) s 0

abbrev pub verdict : List ℕ → Verdict
verdict s = verdict_at levels s
