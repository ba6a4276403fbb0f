-- Something of a value was passed, and a place reached where items are owed: what stands from there on is found, and the
-- value is what was passed and that.
--   alive_on    a value stands, and the items that it leads to are alive
--   tree_is     what a value is, is told by any reading of it that ends with a byte of its own
use mathlib.Core.Path.{◌≡◌, sym, subst}
use mathlib.Core.List.{List, [], ◌∷◌, ◌++◌, map}
use Prim.Native.Nat.{ℕ, ◌+◌}
use native.Mathlib.Omega.{arith}
use lib.ListN.{drop}
use Rattle.text.specs.Json.{Json, depth, levels, a_value, Reads}
use Rattle.text.specs.Contents.{Ends, Stands}
use Rattle.text.specs.Machine.{Item, byte, value}
use Rattle.text.specs.Reading.{Leads}
use Rattle.text.proofs.Laws.Reading.{frame}
use Rattle.text.proofs.Laws.Places.{Alive, alive_seq, done_alive, done_unique}
use Rattle.text.proofs.Laws.Complete.{reads_done, Shut, shut_done}
use Rattle.text.proofs.Laws.Once.{once}
use Rattle.text.proofs.Laws.Contents.{stands_done}

pub alive_on : {s : List ℕ} {t : Json} {v e i : ℕ} {xs : List Item} → Stands s t v e
    → Leads s (value levels ∷ []) v xs i → Alive s (xs ++ map byte (drop e s)) i
alive_on {s} {e = e} p l = alive_seq (done_alive (stands_done p)) (frame (map byte (drop e s)) l)

pub tree_is : {s : List ℕ} {t u : Json} {v e f : ℕ} → Reads s (a_value t) v e → Ends s e → Shut u
    → Reads s (a_value u) v f → t ≡ u
tree_is {s} {t} {u} {v} {e} {f} p c shut q =
    let n = depth t + depth u in
    let z = done_unique (value n ∷ []) (reads_done n p (omega arith) c) (shut_done n shut q (omega arith)) in
    (once p c u e (subst (λ (k : ℕ). Reads s (a_value u) v k) (sym z) q) c).what
