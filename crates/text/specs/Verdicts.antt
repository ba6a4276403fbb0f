-- What the scan's answer means: document 01, "Numbered refusals", the paragraph on places and levels.
--   Verdict        what the scan answers: a JSON text of the levels allowed, or a fault
--   Begins n bs    the bytes bs are the beginning of some JSON text of at most n levels
--   Means s v      the verdict v is the right one on the text s
-- Differs from 01: nowhere.  Pinned by: `verdict_means` and `verdict_unique` of Laws/Meaning.
use Rattle.std.specs.Prelude.{Result, Ok, Err, ⊤, List, ◌++◌, ℕ, ◌+◌, ◌≤◌, ◌<◌, length, take}
use Rattle.text.specs.Json.{Json, JsonText, depth, levels}
use Rattle.text.specs.declared.fault.Fault.{Fault}
use Rattle.text.specs.declared.fault.Fault.TheVariants.{Breaks, Deep}

abbrev pub Verdict : Type 0
Verdict = Result ⊤ Fault

-- a JSON text of at most n levels
pub record Text (n : ℕ) (s : List ℕ) : Type 0 where
  pub tree : Json
  pub says : JsonText s tree
  pub shallow : depth tree ≤ n

pub record Begins (n : ℕ) (bs : List ℕ) : Type 0 where
  pub rest : List ℕ
  pub text : Text n (bs ++ rest)

-- place p is the first byte with which s can no longer begin a JSON text, whatever its levels; or s ends there too
-- early
pub record BreaksAt (s : List ℕ) (p : ℕ) : Type 0 where
  pub inside : p ≤ length s
  pub before : Begins levels (take p s)
  pub not_whole : (n : ℕ) → Text n s → ⊥
  pub no_more : p < length s → (n : ℕ) → Begins n (take (p + 1) s) → ⊥

-- at place p a level is opened that is one too many: s could go on, but not within the levels
pub record DeepAt (s : List ℕ) (p : ℕ) : Type 0 where
  pub inside : p < length s
  pub before : Begins levels (take p s)
  pub opened : ℕ
  pub deeper : Begins opened (take (p + 1) s)
  pub too_deep : Begins levels (take (p + 1) s) → ⊥

pub record Sinks (s : List ℕ) : Type 0 where
  pub place : ℕ
  pub deep : DeepAt s place

abbrev pub Means : List ℕ → Verdict → Type 0
Means s (Ok x) = Text levels s
Means s (Err (Breaks p)) = BreaksAt s p
Means s (Err Deep) = Sinks s
