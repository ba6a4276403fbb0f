-- Putting: what stands in a lent run after something was written to it.
--   lay xs out         out with xs laid over its beginning, as far as it goes
--   put_at out at bs    the place behind bs, and out with bs from place at on; None, and out, where bs does not fit
--   Puts               the same for a private function whose caller saw that bs fits: bs is stored byte by byte
-- Pinned by: Laws/Putting.
use Rattle.std.specs.Prelude.{◌≡◌, List, [], ◌∷◌, ◌++◌, ℕ, ◌+◌, Option, Some, None, leb, length, take, drop}
use Rattle.std.proofs.lemmas.List.Edits.{sets}
use Rattle.chars.specs.Base.{pick}

unfoldable pub lay : List ℕ → List ℕ → List ℕ
lay [] out = out
lay (x ∷ xs) [] = []
lay (x ∷ xs) (o ∷ out) = x ∷ lay xs out

unfoldable pub put_at : List ℕ → ℕ → List ℕ → Option ℕ × List ℕ
put_at out at bs =
    pick (leb (at + length bs) (length out)) (Some (at + length bs), take at out ++ bs ++ drop (at + length bs) out)
    (None, out)

pub record Puts (before : List ℕ) (at : ℕ) (bs : List ℕ) (next : ℕ) (after : List ℕ) : Type 0 where
  pub place : next ≡ at + length bs
  pub run : after ≡ sets before at bs
