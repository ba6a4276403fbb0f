-- Steps: what the private functions of the module `strings` ask and promise. No reader has to believe this page.
--   stepped r w      the text of w by the step r, what w begins with; None is a lone surrogate escape
--   Reads w i r      r is the character at place i of w and the place behind it; None is a lone surrogate escape
--   DigitAt w i r    r is the number of the digit at place i
--   Escaped w        w begins with a reverse solidus and a u
--   Leading w a      w begins with the byte a, which is no ASCII
--   Past w i n r     from place r on stands what follows the byte at place i of w and n bytes behind it
--   Plain b          the byte b is a character by itself
--   PlainEight w i   so are the eight bytes from place i on
--   SameEight w v i  so are they, and v has the same at the same places
--   Sofar w before after i n   n characters are laid over `before`, those of the bytes up to place i
--   Match w v i j    w says v if the bytes from place i on say what v has from place j on
use Rattle.std.specs.Prelude.{◌≡◌, List, ◌++◌, ℕ, suc, ◌+◌, ◌-◌, ◌≤◌, ◌<◌}
use Rattle.std.specs.Prelude.{Option, Some, None, IfSome, length, get_or, drop}
use Rattle.chars.specs.declared.strings.Step.{Step}
use Rattle.chars.specs.declared.strings.Character.{Character}
use Rattle.chars.specs.Putting.{lay}
use Rattle.chars.specs.Decoding.{Text, lone, ahead, hex_of, text_of, same_text}

abbrev pub stepped : Option Step → List ℕ → Text
stepped (Some x) w = ahead x.c (text_of (drop (suc x.more) w))
stepped None w = lone

pub record DigitAt (w : List ℕ) (i r : ℕ) : Type 0 where
  pub is : r ≡ hex_of (get_or w i 0)
  pub small : r < 16

pub record Escaped (w : List ℕ) : Type 0 where
  pub solidus : get_or w 0 0 ≡ 92
  pub letter : get_or w 1 0 ≡ 117

pub record Leading (w : List ℕ) (a : ℕ) : Type 0 where
  pub is : a ≡ get_or w 0 0
  pub high : 128 ≤ a

pub record Past (w : List ℕ) (i n r : ℕ) : Type 0 where
  pub on : i < r
  pub inside : r ≤ length w
  pub rest : drop r w ≡ drop (suc n) (drop i w)

-- the text from the place of a character on
abbrev pub behind : Option Character → List ℕ → Text
behind (Some x) w = ahead x.c (text_of (drop x.past w))
behind None w = lone

pub record Reads (w : List ℕ) (i : ℕ) (r : Option Character) : Type 0 where
  pub text : text_of (drop i w) ≡ behind r w
  pub on : IfSome r (λ x. (i < x.past) × (x.past ≤ length w))

-- ---- eight at once

pub record Plain (b : ℕ) : Type 0 where
  pub ascii : b < 128
  pub no_escape : b ≡ 92 → ⊥

abbrev pub PlainEight : List ℕ → ℕ → Type 0
PlainEight w i = (k : ℕ) → k < 8 → Plain (get_or w (i + k) 0)

abbrev pub SameEight : List ℕ → List ℕ → ℕ → Type 0
SameEight w v i = (k : ℕ) → k < 8 → (Plain (get_or w (i + k) 0)) × (get_or w (i + k) 0 ≡ get_or v (i + k) 0)

-- ---- what the loops keep

abbrev pub joined : List ℕ → Text → Text
joined cs t = record { chars = cs ++ t.chars; sound = t.sound }

pub record Sofar (w before after : List ℕ) (i n : ℕ) : Type 0 where
  pub chars : List ℕ
  pub text : text_of w ≡ joined chars (text_of (drop i w))
  pub count : length chars ≡ n
  pub laid : after ≡ lay chars before
  pub low : n ≤ i

-- from place i and n characters on, the bytes up to place r were laid as they are
pub record Moves (w run run' : List ℕ) (i n r : ℕ) : Type 0 where
  pub on : i ≤ r
  pub inside : r ≤ length w
  pub size : length run' ≡ length run
  pub goes : (before : List ℕ) → Sofar w before run i n → Sofar w before run' r (n + (r - i))

pub record Match (w v : List ℕ) (i j : ℕ) : Type 0 where
  pub is : same_text (text_of w) v ≡ same_text (text_of (drop i w)) (drop j v)
  pub high : j ≤ length v
