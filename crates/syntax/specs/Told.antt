-- Told: what the answers of `forms` say, in the words of Forms.
--   told_number r     the reading that an answer tells
--   with_digit n c    one digit more behind those that made n
--   converted t run  the answer about an entry of symbols t, and the run behind the call: the symbols at its beginning
--   Says w cs i r    the symbols from place i on are the one that r tells, and those from its place on
--   Means f xs cs    the things of a list convert by f to these numbers
use Rattle.std.specs.Prelude.{◌≡◌, Bool, true, false, List, ℕ, ◌+◌, ◌*◌, ◌-◌, ◌≤◌, ◌<◌, leb, length, get_or, drop, Option, Some, None}
use Rattle.chars.specs.Base.{pick, within}
use Rattle.chars.specs.Putting.{lay}
use Rattle.syntax.specs.declared.symbols.Said.{Said}
use Rattle.syntax.specs.Limits.{greatest}
use Rattle.syntax.specs.Forms.{Reading, wrong, read, both, ahead, symbols_of}

abbrev pub told_number : Option ℕ → Reading ℕ
told_number (Some n) = read n
told_number None = wrong

-- the things of a list convert to these numbers, and to no others
pub record Means {A : Type 0} (converts : A → ℕ → Type 0) (xs : List A) (cs : List ℕ) : Type 0 where
  pub many : length xs ≡ length cs
  pub only : (k : ℕ) (x : A) (c : ℕ) → k < length xs → x ≡ get_or xs k x → converts x c → c ≡ get_or cs k 0

unfoldable pub with_digit : ℕ → ℕ → Reading ℕ
with_digit n c = pick (both (within 48 57 c) (leb (n * 10 + (c - 48)) greatest)) (read (n * 10 + (c - 48))) wrong

abbrev pub converted : Reading (List ℕ) → List ℕ → Option ℕ × List ℕ
converted wrong run = (None, run)
converted (read ys) run = (Some (length ys), lay ys run)

abbrev pub is_read : Reading (List ℕ) → Bool
is_read wrong = false
is_read (read ys) = true

-- an escape begins at place i: ${
pub record Opened (cs : List ℕ) (i : ℕ) : Type 0 where
  pub inside : i < length cs
  pub dollar : get_or cs i 0 ≡ 36
  pub brace : get_or (drop i cs) 1 0 ≡ 123

-- no character begins an escape
abbrev pub NoDollar : List ℕ → Type 0
NoDollar cs = (k : ℕ) → k < length cs → get_or cs k 0 ≡ 36 → ⊥

abbrev pub onward : Option Said → Bool → List ℕ → Reading (List ℕ)
onward (Some r) w cs = ahead r.c (symbols_of w (drop r.past cs))
onward None w cs = wrong

-- the place behind a step from place i; behind a wrong escape's dollar, since no more of it is known
abbrev pub past_of : Option Said → ℕ → ℕ
past_of (Some r) i = r.past
past_of None i = i + 1

pub record Says (w : Bool) (cs : List ℕ) (i : ℕ) (r : Option Said) : Type 0 where
  pub text : symbols_of w (drop i cs) ≡ onward r w cs
  pub on : i < past_of r i
  pub inside : past_of r i ≤ length cs
