-- That a piece stands at a place, and that whatever may stand at a later place is found there.
use mathlib.Core.List.{List, ◌∷◌, ◌++◌}
use Prim.Native.Nat.{ℕ, ◌≤◌, ◌<◌}
use lib.ListN.{length}
use native.Mathlib.Omega.{arith}
use Rattle.text.specs.Json.{Json, Values, Members, depth, depths, depthm, Piece, a_value, elements, rest, members}
use Rattle.text.specs.Json.{more, Reads}
use Rattle.text.specs.Machine.{Item, ws, value, next, before, inner}
use Rattle.text.specs.declared.scan.Shape.TheVariants.{List as a_list, Object as an_object}
use Rattle.text.proofs.Laws.Places.{Alive}

-- a piece stands at a place, within n levels, and behind it the items ys are owed
pub record Found (A : Type 0) (piece : A → Piece) (size : A → ℕ) (s : List ℕ) (n : ℕ) (ys : List Item) (i : ℕ) : Type 0
  where
    pub what : A
    pub stop : ℕ
    pub reads : Reads s (piece what) i stop
    pub shallow : size what ≤ n
    pub later : i < stop
    pub next : Alive s ys stop

module _ {A : Type 0} {piece : A → Piece} {size : A → ℕ} {s : List ℕ} {n : ℕ} {ys : List Item} {i : ℕ} where
  pub found : (x : A) (e : ℕ) → Reads s (piece x) i e → size x ≤ n → i < e → Alive s ys e → Found A piece size s n ys i
  found x e r h l v = record { what = x; stop = e; reads = r; shallow = h; later = l; next = v }

  -- a piece that ends with one found later
  pub found_with : {B : Type 0} {part : B → Piece} {sizes : B → ℕ} {m j : ℕ} (r : Found B part sizes s m ys j) (x : A)
      → Reads s (piece x) i r.stop → size x ≤ n → i ≤ j → Found A piece size s n ys i
  found_with r x q h l = found x r.stop q h (omega (arith, r.later)) r.next

abbrev pub Value : List ℕ → ℕ → List Item → ℕ → Type 0
Value s n ys i = Found Json a_value depth s n ys i

-- whatever may stand at a place is found there
pub record All (s : List ℕ) (i : ℕ) : Type 0 where
  pub a_value_at : (n : ℕ) (ys : List Item) → Alive s (value n ∷ ys) i → Value s n ys i
  pub elements_at : (n : ℕ) (ys : List Item) → Alive s (inner a_list n ++ ys) i → Found Values elements depths s n ys i
  pub rest_at : (n : ℕ) (ys : List Item) → Alive s (ws ∷ next a_list n ∷ ys) i → Found Values rest depths s n ys i
  pub members_at : (n : ℕ) (ys : List Item) → Alive s ((before an_object ++ inner an_object n) ++ ys) i
      → Found Members members depthm s n ys i
  pub more_at : (n : ℕ) (ys : List Item) → Alive s (ws ∷ next an_object n ∷ ys) i → Found Members more depthm s n ys i

abbrev pub Later : List ℕ → ℕ → Type 0
Later s i = (j : ℕ) → i < j → j ≤ length s → All s j
