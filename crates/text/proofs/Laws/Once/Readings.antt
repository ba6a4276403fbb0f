-- What it is to read once: two readings at one place say the same, up to the same place.
use mathlib.Core.Path.{◌≡◌, sym, ◌∙◌, subst}
use mathlib.Core.List.{List}
use Prim.Native.Nat.{ℕ}
use Rattle.chars.specs.Base.{At}
use Rattle.text.specs.Json.{Json, Values, Members, Piece, a_value, elements, rest, members, more, Reads}
use Rattle.text.specs.Contents.{Ends}

pub clash : {s : List ℕ} {i x y : ℕ} → At s i x → At s i y → x ≡ y
clash p q = sym p.is ∙ q.is

-- the same thing, up to the same place
pub record Same (A : Type 0) (x y : A) (e f : ℕ) : Type 0 where
  pub what : x ≡ y
  pub stop : e ≡ f

abbrev pub Once : List ℕ → Piece → ℕ → ℕ → Type 0
Once s (a_value t) i e = (u : Json) (f : ℕ) → Reads s (a_value u) i f → Ends s f → Same Json t u e f
Once s (elements t) i e = (u : Values) (f : ℕ) → Reads s (elements u) i f → Same Values t u e f
Once s (rest t) i e = (u : Values) (f : ℕ) → Reads s (rest u) i f → Same Values t u e f
Once s (members t) i e = (u : Members) (f : ℕ) → Reads s (members u) i f → Same Members t u e f
Once s (more t) i e = (u : Members) (f : ℕ) → Reads s (more u) i f → Same Members t u e f

-- at whichever of two equal places
pub moved : {s : List ℕ} {i j e : ℕ} (p : Piece) → i ≡ j → Reads s p i e → Reads s p j e
moved {s} {i} {j} {e} p q r = subst (λ (k : ℕ). Reads s p k e) q r
