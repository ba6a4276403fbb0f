-- A room that fits still fits once it was fed.
--   row_of, made_fits    the row of a content whose row has a row's size holds it, and fits where it is a candidate's
--   fed_fits             what is fed to a room that fits leaves one that fits
use mathlib.Core.Path.{◌≡◌, refl, ap, ◌∙◌}
use mathlib.Core.Bool.{Bool, true}
use mathlib.Core.List.{List, ◌∷◌, ◌++◌}
use Prim.Native.Nat.{ℕ, ◌*◌, ◌≤◌}
use native.Mathlib.Omega.{arith}
use lib.ListN.{length, take, drop, length-drop}
use lib.Seq.{take_at, drop_at, length-take-le}
use Rattle.chars.specs.Base.{pick}
use Rattle.syntax.specs.Policy.{Effect, Allow, Value}
use Rattle.syntax.specs.Forms.{both, same}
use Rattle.syntax.proofs.Laws.Same.{same_complete}
use Rattle.parts.proofs.Laws.Slots.{both_true}
use Rattle.decision.specs.Decision.{Found, nothing, found, same_effect}
use Rattle.candidates.specs.Candidates.{Kind, Covers, Lawful, Content, empty, holds, itself, single, under, up_to}
use Rattle.candidates.specs.Candidates.{charged, is_content}
use Rattle.candidates.specs.Rows.{row_numbers, row, content_of, is_row, is_zero}
use Rattle.candidates.proofs.Laws.Encoding.{Sized, no_row, whole_row, text_row_lem, begun_row, number_row_lem, content_row}
use Rattle.candidates.proofs.Laws.Entries.{lawful, whole_meets}
use Rattle.rooms.specs.Rooms.{Slot, slot_kind, row_fits, fits, row_fed, fed}
use Rattle.rooms.specs.Walking.{RightAt, Right, all_right, one_right}
use Rattle.rooms.proofs.Laws.Handling.{few}
use Rattle.rooms.proofs.Laws.HandlingRows.{kind_row}
use Rattle.rooms.proofs.Laws.Lengths.{charged_size, fed_size}

-- ---- one row

pub kind_lawful : (s : Slot) → Lawful (slot_kind s)
kind_lawful s = lawful s.place s.entry

-- a content whose row has a row's size
sized : (c : Content) → length (row c) ≡ row_numbers → Sized c
unfolding row
sized empty e = no_row
sized (holds itself) e = whole_row
sized (holds (single t)) e = text_row_lem {t = t} (omega (arith, few (2 ∷ length t ∷ t) e))
sized (holds (under q)) e = begun_row {q = q} (omega (arith, few (3 ∷ length q ∷ q) e))
sized (holds (up_to n)) e = number_row_lem

-- the row of such a content holds it
pub row_of : (c : Content) → length (row c) ≡ row_numbers → content_of (row c) ≡ c
row_of c e = content_row c (sized c e)

-- a row made of a right content fits
pub made_fits : (s : Slot) (c : Content) → s.effect ≡ Allow → is_content (slot_kind s) c ≡ true
    → length (row c) ≡ row_numbers → row_fits s (row c) ≡ true
unfolding is_row
made_fits s c a i e =
    ap (λ (f : Effect). pick (same_effect f Allow) (is_row (slot_kind s) (row c)) (is_zero (row c))) a
    ∙ ap (λ (d : Content). both (is_content (slot_kind s) d) (same (row d) (row c))) (row_of c e)
    ∙ ap (λ (b : Bool). both b (same (row c) (row c))) i ∙ same_complete refl

-- one value more keeps a candidate of the entry
charged_content :
    {k : Kind} (c : Content) (y : Value) → Lawful k → is_content k c ≡ true → Covers k k.whole y
    → is_content k (charged k c y) ≡ true
charged_content empty y l i w = (l.least y w).among
charged_content {k} (holds a) y l i w = (l.join a (k.least y) i (l.least y w).among).among

row_content : (s : Slot) (xs : List ℕ) → s.effect ≡ Allow → row_fits s xs ≡ true
    → is_content (slot_kind s) (content_of xs) ≡ true
unfolding is_row
row_content s xs a f =
    (both_true (is_content (slot_kind s) (content_of xs)) (same (row (content_of xs)) xs) (kind_row s xs a refl f)).0

row_fed_fits : (s : Slot) (g : Found) (xs : List ℕ) → length xs ≡ row_numbers → RightAt s g → row_fits s xs ≡ true
    → row_fits s (row_fed s g xs) ≡ true
row_fed_fits s nothing xs n r f = f
row_fed_fits s (found y) xs n r f =
    made_fits s (charged (slot_kind s) (content_of xs) y) r.allows
    (charged_content (content_of xs) y (kind_lawful s) (row_content s xs r.allows f)
    (whole_meets s.place s.entry y ∙ r.meets))
    (charged_size s y xs n r f)

-- ---- a room

-- a row before others
pub before_fits : (s : Slot) (ss : List Slot) (x rest : List ℕ) → length x ≡ row_numbers → row_fits s x ≡ true
    → fits ss rest ≡ true → fits (s ∷ ss) (x ++ rest) ≡ true
unfolding fits
before_fits s ss x rest n f g =
    ap (λ (l : List ℕ). both (row_fits s l) (fits ss (drop row_numbers (x ++ rest)))) (take_at x rest row_numbers n)
    ∙ ap (λ (l : List ℕ). both (row_fits s x) (fits ss l)) (drop_at x rest row_numbers n)
    ∙ ap (λ (b : Bool). both b (fits ss rest)) f ∙ g

pub fed_fits :
    (ss : List Slot) (fs : List Found) (xs : List ℕ) → Right ss fs → row_numbers * length ss ≤ length xs
    → fits ss xs ≡ true → fits ss (fed ss fs xs) ≡ true
unfolding fed fits
fed_fits ss fs xs all_right h f = f
fed_fits (s ∷ ss) (g ∷ fs) xs (one_right r q) h f =
    let n = length-take-le row_numbers xs (omega (arith, h)) in
    let t = both_true (row_fits s (take row_numbers xs)) (fits ss (drop row_numbers xs)) f in
    before_fits s ss (row_fed s g (take row_numbers xs)) (fed ss fs (drop row_numbers xs))
    (fed_size s g (take row_numbers xs) n r t.0)
    (row_fed_fits s g (take row_numbers xs) n r t.0)
    (fed_fits ss fs (drop row_numbers xs) q (omega (arith, h, length-drop row_numbers xs)) t.1)
