-- Entries that a record was charged to are kept, and match it still.
--   Covered s f xs      the row xs of the slot s covers the value f, if there is one;  AllCovered   of rows
--   rows_cover          the rows of a room that comes of a log cover what each of its records charges
--   list_keeps          a list that matches a value keeps an entry that matches it
use mathlib.Core.Path.{◌≡◌, refl, ap, ◌∙◌, subst}
use mathlib.Core.Bool.{Bool, true, false}
use mathlib.Core.List.{List, [], ◌∷◌, ◌++◌}
use Prim.Native.Nat.{ℕ, suc, ◌+◌, ◌*◌}
use native.Mathlib.Omega.{arith}
use lib.ListN.{length, take, drop}
use lib.Seq.{drop-drop}
use Rattle.chars.specs.Base.{pick}
use Rattle.syntax.specs.Policy.{Allow, Value}
use Rattle.syntax.specs.Forms.{either}
use Rattle.held.specs.Held.{any_of}
use Rattle.decision.specs.Decision.{Found, nothing, found}
use Rattle.candidates.specs.Candidates.{Candidate, Content, empty, holds, Kind, Covers, Holds}
use Rattle.candidates.specs.Candidates as C
use Rattle.candidates.specs.Entries.{Place, meets_at, refined}
use Rattle.candidates.specs.Rows.{row_numbers, content_of}
use Rattle.rooms.specs.Rooms.{Slot, slot_kind, slots_at, hits}
use Rattle.refined.specs.Finishing.{kept_by, kept, behind}
use Rattle.candidates.proofs.Laws.Refined.{refines}
use Rattle.rooms.specs.Rooms.{found_at}
use Rattle.demands.proofs.Laws.Rooms.{Charging, RowsHold}
use Rattle.demands.proofs.Laws.Narrowing.{any, either_right}

-- ---- rows that cover

pub record Covering (k : Kind) (v : Value) (r : Content) : Type 0 where
  pub held : Candidate
  pub is : r ≡ holds held
  pub among : k.is held ≡ true
  pub covers : Covers k held v

covering : (k : Kind) (S : Value → Type 0) (v : Value) (r : Content) → Holds k S r → S v → Covering k v r
covering k S v r (C.nothing n) x = absurd (n v x)
covering k S v r (C.least {c = c} y l) x =
    record { held = c; is = refl; among = l.among; covers = l.all v x }

abbrev pub Covered : Slot → Found → List ℕ → Type 0
Covered s nothing xs = Unit {0}
Covered s (found v) xs = Covering (slot_kind s) v (content_of xs)

unfoldable pub AllCovered : List Slot → List Found → List ℕ → Type 0
AllCovered [] fs ns = Unit {0}
AllCovered (s ∷ ss) [] ns = Unit {0}
AllCovered (s ∷ ss) (f ∷ fs) ns = Covered s f (take row_numbers ns) × AllCovered ss fs (drop row_numbers ns)

row_covers : (s : Slot) (S : Value → Type 0) (f : Found) (xs : List ℕ) → Holds (slot_kind s) S (content_of xs)
    → ((v : Value) → f ≡ found v → S v) → Covered s f xs
row_covers s S nothing xs h i = Prim.tt
row_covers s S (found v) xs h i = covering (slot_kind s) S v (content_of xs) h (i v refl)

pub rows_cover : (ss : List Slot) (fs : List Found) (S : Charging) (ns : List ℕ) → RowsHold ss S ns
    → ((k : ℕ) (v : Value) → found_at k fs ≡ found v → S k v) → AllCovered ss fs ns
unfolding RowsHold AllCovered found_at
rows_cover [] fs S ns h i = Prim.tt
rows_cover (s ∷ ss) [] S ns h i = Prim.tt
rows_cover (s ∷ ss) (f ∷ fs) S ns h i = (
  row_covers s (S 0) f (take row_numbers ns) h.0.right (λ v e. i 0 v e),
  rows_cover ss fs (λ k. S (suc k)) (drop row_numbers ns) h.1 (λ k v e. i (suc k) v e),
)

-- ---- one list

pub record Keeps (p : Place) (v : Value) (xs : List Value) (ss : List Slot) (fs : List Found) (ns : List ℕ) : Type 0 where
  pub keeps : any p v xs ≡ true → any p v (kept xs ns) ≡ true
  pub others : AllCovered ss fs (behind xs ns)

later_rows : (ss : List Slot) (fs : List Found) (n : ℕ) (ns : List ℕ)
    → AllCovered ss fs (drop (row_numbers * n) (drop row_numbers ns)) → AllCovered ss fs (drop (row_numbers * suc n) ns)
later_rows ss fs n ns h =
    let e : row_numbers + row_numbers * n ≡ row_numbers * suc n = omega arith in
    subst (AllCovered ss fs) (drop-drop (row_numbers * n) row_numbers ns ∙ ap (λ (k : ℕ). drop k ns) e) h

-- an entry before others: it matches and is kept so, or one of the others does
first_keeps : (p : Place) (v x : Value) (rest keeping : List Value) (xs : List ℕ) (b : Bool) → meets_at p x v ≡ b
    → Covered (record { effect = Allow; place = p; entry = x }) (pick b (found v) nothing) xs
    → (any p v rest ≡ true → any p v keeping ≡ true) → either b (any p v rest) ≡ true
    → any p v (kept_by (content_of xs) x keeping) ≡ true
unfolding any_of
first_keeps p v x rest keeping xs true m w f e =
    ap (λ (c : Content). any p v (kept_by c x keeping)) w.is
    ∙ ap (λ (t : Bool). either t (any p v keeping)) ((refines p x w.held w.among).meets v ∙ w.covers)
first_keeps p v x rest keeping xs false m w f e = by (content_of xs)
  where
    by : (c : Content) → any p v (kept_by c x keeping) ≡ true
    by empty = f e
    by (holds c) = either_right (meets_at p (refined x c) v) (f e)

pub list_keeps : (p : Place) (v : Value) (xs : List Value) (ss : List Slot) (fs : List Found) (ns : List ℕ)
    → AllCovered (slots_at Allow p xs ++ ss) (hits p (found v) xs ++ fs) ns → Keeps p v xs ss fs ns
unfolding AllCovered kept any_of
list_keeps p v [] ss fs ns h = record { keeps = λ e. e; others = h }
list_keeps p v (x ∷ xs) ss fs ns h =
    let r = list_keeps p v xs ss fs (drop row_numbers ns) h.1 in
    record {
      keeps = λ e. first_keeps p v x xs (kept xs (drop row_numbers ns)) (take row_numbers ns) (meets_at p x v) refl h.0
          r.keeps e;
      others = later_rows ss fs (length xs) ns r.others;
    }
