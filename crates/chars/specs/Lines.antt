-- Lines: document 01, "The program": a line is ended by LF, the last may lack it; an empty line is a line.
--   Lines s ls    the bytes s are the lines ls, one behind the other
--   line_at s i    the line that begins at place i, if one does: its end, and where the next one begins
-- Differs from 01: nowhere.  Pinned by: `line_here`, `line_none` and `lines_unique` of Laws/Lines.
use Rattle.std.specs.Prelude.{◌≡◌, List, [], ◌∷◌, ◌++◌, ℕ, suc, ◌+◌, Option, Some, None, eqb, ltb, length, drop}
use Rattle.chars.specs.Base.{pick}
use Rattle.chars.specs.declared.lines.Line.{Line}

-- no LF among the bytes
pub data Unbroken : List ℕ → Type 0 where
  none : Unbroken []
  more : {b : ℕ} {w : List ℕ} → (b ≡ 10 → ⊥) → Unbroken w → Unbroken (b ∷ w)

pub data Lines : List ℕ → List (List ℕ) → Type 0 where
  nothing : Lines [] []
  last : {b : ℕ} {w : List ℕ} → Unbroken (b ∷ w) → Lines (b ∷ w) ((b ∷ w) ∷ [])
  line : {w s : List ℕ} {ls : List (List ℕ)} → Unbroken w → Lines s ls → Lines (w ++ (10 ∷ s)) (w ∷ ls)

-- how many bytes stand before the first LF
unfoldable pub unbroken : List ℕ → ℕ
unbroken [] = 0
unbroken (b ∷ bs) = pick (eqb b 10) 0 (suc (unbroken bs))

-- a line that ends at e, behind which the next one begins at n
abbrev pub here : ℕ → ℕ → Option Line
here e n = Some (record { end = e; next = n })

-- a line that ends at e: behind an LF the next one begins
abbrev pub line_to : List ℕ → ℕ → Option Line
line_to s e = pick (ltb e (length s)) (here e (e + 1)) (here e e)

unfoldable pub line_at : List ℕ → ℕ → Option Line
line_at s i = pick (ltb i (length s)) (line_to s (i + unbroken (drop i s))) None
