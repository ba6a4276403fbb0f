-- Lying: what lies in a held run, for whoever walks over it.
--   Lies run p xs     the numbers xs lie in the run from place p on
--   Lying, LyingMany  a thing lies there, or n things one behind the other, each held by h
--   Placed, PlacedMany   n things, each at its own one of 64 places; all end up to place e
--   Passes ..         a walk over things: the place behind them, how many entries they have, whether a limit is passed
use Rattle.std.specs.Prelude.{◌≡◌, Bool, List, [], ◌∷◌, ◌++◌, ℕ, ◌+◌, ◌≤◌, length, get_or, drop}
use Rattle.syntax.specs.Limits.{run_numbers}
use Rattle.held.specs.Held.{held_each}
use Rattle.held.specs.declared.runs.Seen.{Seen}

pub record Lies (run : List ℕ) (p : ℕ) (xs : List ℕ) : Type 0 where
  pub behind : List ℕ
  pub is : drop p run ≡ xs ++ behind
  pub within : p ≤ length run
  pub bounded : length run ≤ run_numbers

-- a thing lies at p, held by h
pub record Lying {A : Type 0} (h : A → List ℕ) (run : List ℕ) (p : ℕ) : Type 0 where
  pub thing : A
  pub lies : Lies run p (h thing)

-- n things lie at p, each held by h
pub record LyingMany {A : Type 0} (h : A → List ℕ) (run : List ℕ) (p n : ℕ) : Type 0 where
  pub things : List A
  pub count : n ≡ length things
  pub lies : Lies run p (held_each h things)

-- things lie at the places from number i on, each held by h, and end up to e
pub data PlacedFrom {A : Type 0} (h : A → List ℕ) (run places : List ℕ) (e : ℕ) : ℕ → List A → Type 0 where
  none : {i : ℕ} → PlacedFrom h run places e i []
  more : {i : ℕ} {x : A} {xs : List A} → Lies run (get_or places i 0) (h x) → get_or places i 0 + length (h x) ≤ e
      → PlacedFrom h run places e (i + 1) xs → PlacedFrom h run places e i (x ∷ xs)

-- n things lie at the first of 64 places
pub record Placed {A : Type 0} (h : A → List ℕ) (run places : List ℕ) (n e : ℕ) (things : List A) : Type 0 where
  pub count : n ≡ length things
  pub few : n ≤ 64
  pub size : length places ≡ 64
  pub each : PlacedFrom h run places e 0 things

pub record PlacedMany {A : Type 0} (h : A → List ℕ) (run places : List ℕ) (n : ℕ) : Type 0 where
  pub things : List A
  pub end : ℕ
  pub placed : Placed h run places n end things

pub record Passes (p : ℕ) (xs : List ℕ) (entries : ℕ) (over : Bool) (r : Seen) : Type 0 where
  pub past : r.past ≡ p + length xs
  pub many : r.entries ≡ entries
  pub limit : r.over ≡ over
