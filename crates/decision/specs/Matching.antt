-- Matching: document 01, "Policy layout", on * and ?; an entry e by its symbols, a text t by its characters.
--   Matches e t   the meaning, one rule for each clause;  matches e t   the same as a test
--   next e t at   the order of trying, from `start` on: one look at one symbol and one character, and where to look
--                 then, or the answer
-- A wildcard is one whatever number stands in the text. So `star` and `any`, which no character has, would be met there
-- by wildcards alone.
-- Differs from 01: nowhere.  Pinned by: Laws/Matching, Laws/MatchingSteps, Laws/MatchingTrials.
use Rattle.std.specs.Prelude.{◌≡◌, Bool, true, false, List, [], ◌∷◌, ℕ, ◌+◌, ◌≤◌, ◌<◌, eqb, ltb, length, get_or}
use Rattle.chars.specs.Base.{pick}
use Rattle.decision.specs.declared.matching.Place.{Place}
use Rattle.std.specs.declared.ops.ControlFlow.{ControlFlow}
use Rattle.std.specs.declared.ops.ControlFlow.TheVariants.{Continue, Break}
use Rattle.syntax.specs.Policy.{star, any}
use Rattle.syntax.specs.Forms.{both, either}

pub data Matches : List ℕ → List ℕ → Type 0 where
  -- an entry of no symbols: the empty text
  over : Matches [] []
  -- *: no character, or one more, whatever it is
  nothing : {e t : List ℕ} → Matches e t → Matches (star ∷ e) t
  further : {e t : List ℕ} {c : ℕ} → Matches (star ∷ e) t → Matches (star ∷ e) (c ∷ t)
  -- ?: one character, whatever it is
  single : {e t : List ℕ} {c : ℕ} → Matches e t → Matches (any ∷ e) (c ∷ t)
  -- every other symbol: itself
  itself : {e t : List ℕ} {c : ℕ} → (c ≡ star → ⊥) → (c ≡ any → ⊥) → Matches e t → Matches (c ∷ e) (c ∷ t)

-- ---- the test

-- f passes at some ending of the text, the whole text and the empty one among them
unfoldable pub some_ending : (List ℕ → Bool) → List ℕ → Bool
some_ending f [] = f []
some_ending f (c ∷ t) = either (f (c ∷ t)) (some_ending f t)

-- a symbol that is no star stands for a character
abbrev pub stands : ℕ → ℕ → Bool
stands x c = either (eqb x any) (eqb x c)

-- x stands for the first character, and f passes behind it
unfoldable pub first : ℕ → (List ℕ → Bool) → List ℕ → Bool
first x f [] = false
first x f (c ∷ t) = both (stands x c) (f t)

unfoldable pub matches : List ℕ → List ℕ → Bool
matches [] [] = true
matches [] (c ∷ t) = false
matches (x ∷ e) t = pick (eqb x star) (some_ending (matches e) t) (first x (matches e) t)

-- ---- the order of trying

abbrev pub start : Place
start = record { symbol = 0; character = 0; behind = 0; tried = 0 }

-- behind a star, which takes no character at first; behind another symbol and its character; behind the last star
-- again, which takes one character more
abbrev pub past_star : Place → Place
past_star at =
    record { symbol = at.symbol + 1; character = at.character; behind = at.symbol + 1; tried = at.character }

abbrev pub past_both : Place → Place
past_both at = record { symbol = at.symbol + 1; character = at.character + 1; behind = at.behind; tried = at.tried }

abbrev pub again : Place → Place
again at = record { symbol = at.behind; character = at.tried + 1; behind = at.behind; tried = at.tried + 1 }

-- no match here: the last star is tried again; without a star nothing is left to try
unfoldable pub retry : Place → ControlFlow Bool Place
retry at = pick (eqb at.behind 0) (Break false) (Continue (again at))

-- behind the last symbol: the text is over too; or the last symbol is a star, which takes what is left of it
unfoldable pub at_end : List ℕ → Place → ControlFlow Bool Place
at_end t at =
    pick (eqb at.character (length t)) (Break true)
    (pick (eqb at.behind at.symbol) (Break (ltb 0 at.symbol)) (retry at))

-- at the symbol x: a text that is over has no character for a symbol, and only a star needs none
unfoldable pub at_symbol : ℕ → List ℕ → Place → ControlFlow Bool Place
at_symbol x t at =
    pick (eqb x star) (Continue (past_star at))
    (pick (eqb at.character (length t)) (Break false)
    (pick (stands x (get_or t at.character 0)) (Continue (past_both at)) (retry at)))

unfoldable pub next : List ℕ → List ℕ → Place → ControlFlow Bool Place
next e t at = pick (eqb at.symbol (length e)) (at_end t at) (at_symbol (get_or e at.symbol 0) t at)

-- the places are inside, or at the ends
pub record Inside (e t : List ℕ) (at : Place) : Type 0 where
  pub entry : at.symbol ≤ length e
  pub text : at.character ≤ length t
  pub trial : at.tried ≤ length t

-- the first n symbols are no stars, and the text's own first characters
pub record Alike (e t : List ℕ) (n : ℕ) : Type 0 where
  pub entry : n ≤ length e
  pub text : n ≤ length t
  pub same : (k : ℕ) → k < n → (get_or e k 0 ≡ get_or t k 0) × (get_or e k 0 ≡ star → ⊥)
