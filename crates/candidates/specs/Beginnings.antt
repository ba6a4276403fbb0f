-- Beginnings of texts, counted in characters.
--   begins q t       the text t begins with q;  shared s t   the longest beginning that two texts share
--   longest wide t   the longest beginning of t, of one character or more, that the test lets pass, as a candidate; the
--                    entry itself where none does
-- Pinned by: Laws/Beginnings.
use Rattle.std.specs.Prelude.{Bool, true, false, List, [], ◌∷◌, ℕ, zero, suc, eqb, length, take}
use Rattle.chars.specs.Base.{pick}
use Rattle.syntax.specs.Forms.{both}
use Rattle.candidates.specs.Candidates.{Candidate, itself, under}

unfoldable pub begins : List ℕ → List ℕ → Bool
begins [] t = true
begins (x ∷ q) [] = false
begins (x ∷ q) (c ∷ t) = both (eqb x c) (begins q t)

unfoldable pub shared : List ℕ → List ℕ → List ℕ
shared [] t = []
shared (x ∷ s) [] = []
shared (x ∷ s) (c ∷ t) = pick (eqb x c) (x ∷ shared s t) []

-- of at most n characters
unfoldable pub longest_up_to : (List ℕ → Bool) → ℕ → List ℕ → Candidate
longest_up_to wide zero t = itself
longest_up_to wide (suc n) t = pick (wide (take (suc n) t)) (under (take (suc n) t)) (longest_up_to wide n t)

abbrev pub longest : (List ℕ → Bool) → List ℕ → Candidate
longest wide t = longest_up_to wide (length t) t
