-- Marks: what stands between the values of a text that is judged as it is walked over.
--   Unless r P        P of the answer r, unless it is none
--   Opened s b v r    the byte b at v, and all white space up to r
--   Closed s b i r    white space from i on, the byte b, up to r
--   Parted s b i r    white space from i on, the byte b, all white space up to r
--   Named s w i r     a name, w between its quotes, from i on, and its colon; its value is to stand at r
--   First s w v r     an object opens at v, and its first member has the name w
--   Next s w i r      behind a member that ends at i another one has the name w
--   all_bare w         every byte of w stands for itself in a string
use Rattle.std.specs.Prelude.{◌≡◌, Bool, true, not, List, [], ◌∷◌, ℕ, ◌+◌, eqb, leb, Option, Some}
use Rattle.chars.specs.Base.{At}
use Rattle.text.specs.Json.{Space, Quoted}
use Rattle.text.specs.Machine.{ws}
use Rattle.text.specs.Reading.{Done}
use Rattle.syntax.specs.Forms.{both}

pub record Unless (r : Option ℕ) (P : ℕ → Type 0) : Type 0 where
  pub found : (i : ℕ) → r ≡ Some i → P i

pub record Opened (s : List ℕ) (b v r : ℕ) : Type 0 where
  pub at : At s v b
  pub space : Space s (v + 1) r
  pub all : Done s (ws ∷ []) (v + 1) r

pub record Closed (s : List ℕ) (b i r : ℕ) : Type 0 where
  pub place : ℕ
  pub space : Space s i place
  pub at : At s place b
  pub past : r ≡ place + 1

pub record Parted (s : List ℕ) (b i r : ℕ) : Type 0 where
  pub place : ℕ
  pub before : Space s i place
  pub at : At s place b
  pub after : Space s (place + 1) r
  pub all : Done s (ws ∷ []) (place + 1) r

pub record Named (s w : List ℕ) (i r : ℕ) : Type 0 where
  pub past : ℕ
  pub name : Quoted s w i past
  pub colon : Parted s 58 past r

pub record First (s w : List ℕ) (v r : ℕ) : Type 0 where
  pub place : ℕ
  pub opened : Opened s 123 v place
  pub named : Named s w place r

pub record Next (s w : List ℕ) (i r : ℕ) : Type 0 where
  pub place : ℕ
  pub comma : Parted s 44 i place
  pub named : Named s w place r

-- U+0020 to U+007F, neither the quote nor the reverse solidus
abbrev pub bare : ℕ → Bool
bare b = both (both (leb 32 b) (leb b 127)) (both (not (eqb b 34)) (not (eqb b 92)))

unfoldable pub all_bare : List ℕ → Bool
all_bare [] = true
all_bare (b ∷ w) = both (bare b) (all_bare w)
