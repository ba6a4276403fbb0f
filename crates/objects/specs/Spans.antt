-- Spans: where the parts of an object lie in a run, by their turns from 1 on. Of twelve numbers, the first is the place
-- behind the object in its text; the second the place behind all parts in the run; then
-- come two for each turn, from which place up to which its part lies.
--   from_of m k, to_of m k, behind m   those places
--   in_turn run m n                   the parts of the first n turns, one behind the other
--   Spanned run m n at               the parts of n turns lie in the run, and end before `behind`
use Rattle.std.specs.Prelude.{◌≡◌, ◌⊎◌, List, [], ◌++◌, ℕ, zero, suc, ◌+◌, ◌-◌, ◌≤◌, ◌<◌, length, get_or, Option, Some, None}
use Rattle.chars.specs.Base.{part}
use Rattle.parts.specs.Holding.{Extends}
use Rattle.objects.specs.declared.settling.Lined.{Lined}

abbrev pub from_of : List ℕ → ℕ → ℕ
from_of m k = get_or m (k + k) 0

abbrev pub to_of : List ℕ → ℕ → ℕ
to_of m k = get_or m (k + k + 1) 0

abbrev pub behind : List ℕ → ℕ
behind m = get_or m 1 0

abbrev pub piece : List ℕ → List ℕ → ℕ → List ℕ
piece run m k = part run (from_of m k) (to_of m k)

unfoldable pub in_turn : List ℕ → List ℕ → ℕ → List ℕ
in_turn run m zero = []
in_turn run m (suc n) = in_turn run m n ++ piece run m (suc n)

pub record Span (m : List ℕ) (k : ℕ) : Type 0 where
  pub order : from_of m k ≤ to_of m k
  pub inside : to_of m k ≤ behind m

pub record Spanned (run m : List ℕ) (n at : ℕ) : Type 0 where
  pub size : length m ≡ 12
  pub few : n ≤ 5
  pub low : at ≤ behind m
  pub high : behind m ≤ length run
  pub each : (k : ℕ) → 0 < k → k ≤ n → Span m k

-- the numbers from one place up to another may be put at a third: it is not among them
pub record Movable (run : List ℕ) (from to at : ℕ) : Type 0 where
  pub order : from ≤ to
  pub inside : to ≤ length run
  pub room : at + (to - from) ≤ length run
  pub apart : (at ≤ from) ⊎ (to ≤ at)

-- the first parts lie in turn from a place on
pub record InPlace (run m : List ℕ) (n at : ℕ) (r : Lined) : Type 0 where
  pub few : r.count ≤ n
  pub high : r.past ≤ behind m
  pub lie : Extends run run at (in_turn run m r.count) r.past

-- the others were put behind all parts
pub record Copied (run run' m : List ℕ) (first last p : ℕ) : Type 0 where
  pub rest : List ℕ
  pub extends : Extends run run' (behind m) rest p
  pub joins : in_turn run m last ≡ in_turn run m first ++ rest

abbrev pub Copies : List ℕ → List ℕ → List ℕ → ℕ → ℕ → Option ℕ → Type 0
Copies run run' m first last (Some p) = Copied run run' m first last p
Copies run run' m first last None = length run' ≡ length run

abbrev pub Settles : List ℕ → List ℕ → List ℕ → ℕ → ℕ → Option ℕ → Type 0
Settles run run' m last at (Some p) = Extends run run' at (in_turn run m last) p
Settles run run' m last at None = length run' ≡ length run
