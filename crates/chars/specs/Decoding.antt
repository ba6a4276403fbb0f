-- Decoding: Strings as functions, total on any bytes; what bytes that are no Body come to is fixed and means nothing.
--   units_of w       the units of the bytes w: what Body says
--   meaning us      the characters that the units say: what Means says
--   text_of w        the characters before the first lone surrogate escape, and whether there is none
--   decoded_of t n   the answer about a text t where there is room for n characters: Lone goes before Short
--   same_text t w    is t sound, and are its characters w
-- Differs from the RFC: nowhere on a Body.  Pinned by: Laws/Strings.
use Rattle.std.specs.Prelude.{◌≡◌, Bool, true, false, List, [], ◌∷◌, ℕ, zero, suc, ◌+◌, ◌*◌, ◌-◌, ◌%◌}
use Rattle.std.specs.Prelude.{Result, Ok, Err, eqb, leb, ltb, length, get_or}
use Rattle.chars.specs.declared.strings.DecodeError.{DecodeError}
use Rattle.chars.specs.declared.strings.DecodeError.TheVariants.{Lone, Short}
use Rattle.chars.specs.Base.{pick, within}
use Rattle.chars.specs.Putting.{lay}
use Rattle.chars.specs.Strings.{Unit, plain, coded, paired}

-- a hexadecimal digit's number
unfoldable pub hex_of : ℕ → ℕ
hex_of b =
    pick (within 48 57 b) (b - 48)
    (pick (within 65 70 b) (b - 65 + 10)
    (pick (within 97 102 b) (b - 97 + 10) 0))

-- the number of the four digits from place i on
unfoldable pub code_at : List ℕ → ℕ → ℕ
code_at w i =
    hex_of (get_or w i 0) * 4096 + hex_of (get_or w (i + 1) 0) * 256
    + hex_of (get_or w (i + 2) 0) * 16 + hex_of (get_or w (i + 3) 0)

-- what a letter stands for behind a reverse solidus: b f n r t; any other for itself
unfoldable pub letter_of : ℕ → ℕ
letter_of x =
    pick (eqb x 98) 8 (pick (eqb x 102) 12 (pick (eqb x 110) 10
    (pick (eqb x 114) 13 (pick (eqb x 116) 9 x))))

-- a unit, and how many bytes behind the first it takes
pub data Read : Type 0 where
  read : Unit → ℕ → Read

-- a sequence of UTF-8: its first byte says how long it is, and every byte gives its low bits
unfoldable pub sequence_of : List ℕ → ℕ → Read
sequence_of w a =
    pick (ltb a 128) (read (plain a) 0)
    (pick (ltb a 224) (read (plain (a % 32 * 64 + get_or w 1 0 % 64)) 1)
    (pick (ltb a 240) (read (plain (a % 16 * 4096 + get_or w 1 0 % 64 * 64 + get_or w 2 0 % 64)) 2)
    (read (plain (a % 8 * 262144 + get_or w 1 0 % 64 * 4096 + get_or w 2 0 % 64 * 64 + get_or w 3 0 % 64)) 3)))

-- what bytes begin with
unfoldable pub read_of : List ℕ → Read
read_of w =
    pick (eqb (get_or w 0 0) 92)
    (pick (eqb (get_or w 1 0) 117) (read (coded (code_at w 2)) 5) (read (plain (letter_of (get_or w 1 0))) 1))
    (sequence_of w (get_or w 0 0))

abbrev pub on_read : Read → (ℕ → List Unit) → List Unit
on_read (read u n) rest = u ∷ rest n

-- the units behind the first n bytes, which belong to a unit before them
unfoldable pub units_behind : ℕ → List ℕ → List Unit
units_behind n [] = []
units_behind (suc n) (b ∷ w) = units_behind n w
units_behind zero (b ∷ w) = on_read (read_of (b ∷ w)) (λ n. units_behind n w)

abbrev pub units_of : List ℕ → List Unit
units_of w = units_behind 0 w

pub record Text : Type 0 where
  pub chars : List ℕ
  pub sound : Bool

-- nothing more; a lone surrogate escape; a character and what follows it
abbrev pub whole : Text
whole = record { chars = []; sound = true }

abbrev pub lone : Text
lone = record { chars = []; sound = false }

abbrev pub ahead : ℕ → Text → Text
ahead c t = record { chars = c ∷ t.chars; sound = t.sound }

-- paired_with h us: us behind the first half of a pair
unfoldable mutual
  pub meaning : List Unit → Text
  meaning [] = whole
  meaning (plain c ∷ us) = ahead c (meaning us)
  meaning (coded u ∷ us) =
      pick (within 55296 56319 u) (paired_with u us) (pick (within 56320 57343 u) lone (ahead u (meaning us)))

  pub paired_with : ℕ → List Unit → Text
  paired_with h [] = lone
  paired_with h (plain c ∷ us) = lone
  paired_with h (coded l ∷ us) = pick (within 56320 57343 l) (ahead (paired h l) (meaning us)) lone

unfoldable pub text_of : List ℕ → Text
text_of w = meaning (units_of w)

unfoldable pub decoded_of : Text → ℕ → Result ℕ DecodeError
decoded_of t n = pick t.sound (pick (leb (length t.chars) n) (Ok (length t.chars)) (Err Short)) (Err Lone)

unfoldable pub equal : List ℕ → List ℕ → Bool
equal [] [] = true
equal [] (y ∷ ys) = false
equal (x ∷ xs) [] = false
equal (x ∷ xs) (y ∷ ys) = pick (eqb x y) (equal xs ys) false

unfoldable pub same_text : Text → List ℕ → Bool
same_text t w = pick t.sound (equal t.chars w) false

-- what the decoder answers and leaves in the lent run
pub record Decodes (w before : List ℕ) (answer : Result ℕ DecodeError) (after : List ℕ) : Type 0 where
  pub told : answer ≡ decoded_of (text_of w) (length before)
  pub laid : after ≡ lay (text_of w).chars before
