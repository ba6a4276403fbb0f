-- Words that every other page of specs/ uses.
--   pick t x y      x if the test t passes, else y
--   within lo hi b  the test that b is from lo to hi;  one_of xs b  that b is among xs
--   In lo hi b      b is from lo to hi
--   At s i b        the byte b stands at place i of s
--   part s a e      the bytes of s from place a up to place e, e itself not among them
use Rattle.std.specs.Prelude.{◌≡◌, Bool, true, false, List, [], ◌∷◌, ℕ, ◌-◌, ◌≤◌, ◌<◌, eqb, leb, length, get_or, take, drop}

abbrev pub pick {ℓ} : {X : Type ℓ} → Bool → X → X → X
pick true x y = x
pick false x y = y

abbrev pub within : ℕ → ℕ → ℕ → Bool
within lo hi b = pick (leb lo b) (leb b hi) false

unfoldable pub one_of : List ℕ → ℕ → Bool
one_of [] b = false
one_of (x ∷ xs) b = pick (eqb b x) true (one_of xs b)

pub record In (lo hi b : ℕ) : Type 0 where
  pub low : lo ≤ b
  pub high : b ≤ hi

pub record At (s : List ℕ) (i b : ℕ) : Type 0 where
  pub inside : i < length s
  pub is : get_or s i 0 ≡ b

abbrev pub part : List ℕ → ℕ → ℕ → List ℕ
part s a e = take (e - a) (drop a s)
