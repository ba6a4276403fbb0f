-- A row that is charged is still a row: what it comes to hold has a row's size.
--   charged_size    the numbers of a row that a value was charged to
--   feed_only       a feed changes only the rows of the entries that it charged
use mathlib.Core.Path.{◌≡◌, refl, sym, ap, ◌∙◌, subst}
use mathlib.Core.Bool.{Bool, true, false}
use mathlib.Core.List.{List, ◌∷◌, ◌++◌}
use Prim.Native.Nat.{ℕ, zero, suc, ◌+◌, ◌*◌, ◌≤◌}
use native.Mathlib.Omega.{arith}
use lib.Dec.{leb}
use lib.ListN.{length, take, drop, length-drop}
use lib.Seq.{take_at, drop-drop, drop-append-add, length-take-le}
use Rattle.syntax.specs.Policy.{Allow, Deny, Value, text, number}
use Rattle.parts.proofs.Laws.Slots.{both_true}
use Rattle.decision.specs.Decision.{Found, nothing, found}
use Rattle.candidates.specs.Candidates.{Candidate, itself, Content, empty, holds, Kind}
use Rattle.candidates.specs.Candidates.{joined, charged}
use Rattle.candidates.specs.Beginnings.{shared, longest}
use Rattle.candidates.specs.Kinds.{never, bounds, text_of, one_text}
use Rattle.candidates.specs.Entries.{Place, before, legal_beginning, wild_kind}
use Rattle.candidates.specs.Rows.{row_numbers, text_characters, padded, row, content_of}
use Rattle.candidates.specs.Joining.{Textual, whole_text, single_text, begun_text, Numeric, no_number, one_number}
use Rattle.rooms.specs.declared.listing.Handling.{Handling}
use Rattle.rooms.specs.Rooms.{Slot, row_fits, fits, row_fed, fed, found_at, row_at}
use Rattle.rooms.specs.Walking.{Chargeable, RightAt, Right, all_right, one_right}
use Rattle.candidates.proofs.Laws.Bounding.{counted, counted_size}
use Rattle.candidates.proofs.Laws.ChargingLeast.{mark_row}
use Rattle.candidates.proofs.Laws.FittingWild.{by_tests, no_wildcard, final_star, kind_is}
use Rattle.candidates.proofs.Laws.Joining.{standing, shared_few}
use Rattle.candidates.proofs.Laws.JoiningLeast.{Short, picked, longest_short, least_short}
use Rattle.rooms.proofs.Laws.Handling.{Handled, denied, alone, wild, bound, handles, Alone, Wild, Bound}
use Rattle.rooms.proofs.Laws.Handling.{only_charged}
use Rattle.rooms.proofs.Laws.HandlingRows.{kind_row, number_of, text_of_lem, bound_value, wild_value, text_short}

-- ---- what a row comes to hold

text_few : (c : Candidate) → Short c → length (text_of c) ≤ text_characters
text_few c whole_text = omega arith
text_few c (single_text h) = h
text_few c (begun_text h) = h

join_short : (p : Place) (ys : List ℕ) (a b : Candidate) → Short a → Short ((wild_kind p ys).join a b)
join_short p ys a b s =
    subst (λ (k : Kind). Short (k.join a b)) (sym (kind_is p ys)) (by (no_wildcard p ys) (final_star p ys))
  where
    rest : List ℕ
    rest = shared (text_of a) (text_of b)

    few : length rest ≤ text_characters
    few = omega (arith, shared_few (text_of a) (text_of b), text_few a s)

    longest_rest : (wide : List ℕ → Bool) → Short (longest wide rest)
    longest_rest wide = longest_short rest few wide (length rest)

    by : (t u : Bool) → Short ((by_tests p ys t u).join a b)
    by true u = picked (one_text a b) a (longest never rest) s (longest_rest never)
    by false true =
        picked (one_text a b) a (longest (legal_beginning p (before ys)) rest) s
        (longest_rest (legal_beginning p (before ys)))
    by false false = picked (one_text a b) a (longest never rest) s (longest_rest never)

pub joined_textual : (p : Place) (ys : List ℕ) (c d : Content) → Textual c → Textual d → Textual (joined (wild_kind p ys) c d)
joined_textual p ys empty d s t = t
joined_textual p ys (holds a) empty s t = s
joined_textual p ys (holds a) (holds b) s t = join_short p ys a b s

bound_charged : (n m : ℕ) (c : Content) → Numeric c → Numeric (charged (bounds leb n) c (number m))
bound_charged n m c no_number = one_number
bound_charged n m c one_number = one_number

-- ---- its size

mark_size : length (row (holds itself)) ≡ row_numbers
unfolding padded
mark_size = ap length mark_row

module _ (s : Slot) (y : Value) (xs : List ℕ) (size : length xs ≡ row_numbers) (r : Chargeable s y)
    (f : row_fits s xs ≡ true) where
  alone_size : Alone s → length (row_fed s (found y) xs) ≡ row_numbers
  alone_size w =
      ap (λ (k : Kind). length (row (charged k (content_of xs) y))) w.kind
      ∙ ap (λ (c : Content). length (row c)) (only_charged w.test y xs (kind_row s xs w.allows w.kind f))
      ∙ mark_size

  bound_size : Bound s → length (row_fed s (found y) xs) ≡ row_numbers
  bound_size b =
      let t = bound_value b y r in
      ap (λ (k : Kind). length (row (charged k (content_of xs) y))) b.kind
      ∙ ap (λ (v : Value). length (row (charged (bounds leb b.most) (content_of xs) v))) t.is
      ∙ counted_size (counted (charged (bounds leb b.most) (content_of xs) (number t.value))
      (bound_charged b.most t.value (content_of xs) (number_of s xs f b).numeric) refl)

  wild_size : Wild s → length (row_fed s (found y) xs) ≡ row_numbers
  wild_size w =
      let t = wild_value w y r in
      let k = wild_kind s.place w.symbols in
      let held = charged k (content_of xs) (text t.characters) in
      ap (λ (j : Kind). length (row (charged j (content_of xs) y))) w.kind
      ∙ ap (λ (v : Value). length (row (charged k (content_of xs) v))) t.is
      ∙ (standing held
      (joined_textual s.place w.symbols (content_of xs) (holds (k.least (text t.characters)))
      (text_of_lem s xs f size w).textual
      (least_short t.characters (text_short r.short t) s.place w.symbols)) refl).size

  both_effects : {A : Type 0} → s.effect ≡ Deny → A
  both_effects d = let e : Allow ≡ Deny = sym r.allows ∙ d in let z : ◌≡◌ {A = ℕ} 0 1 = cc in absurd (omega arith)

  pub charged_size : length (row_fed s (found y) xs) ≡ row_numbers
  charged_size = by (handles s)
    where
      by : {k : Handling} → Handled s k → length (row_fed s (found y) xs) ≡ row_numbers
      by (denied d) = both_effects d
      by (alone w) = alone_size w
      by (wild w) = wild_size w
      by (bound b) = bound_size b

pub fed_size : (s : Slot) (g : Found) (xs : List ℕ) → length xs ≡ row_numbers → RightAt s g → row_fits s xs ≡ true
    → length (row_fed s g xs) ≡ row_numbers
fed_size s nothing xs n r f = n
fed_size s (found y) xs n r f = charged_size s y xs n r f

-- ---- only the rows that were charged

next_row : (k : ℕ) (xs ys : List ℕ) → length xs ≡ row_numbers
    → drop (row_numbers * suc k) (xs ++ ys) ≡ drop (row_numbers * k) ys
next_row k xs ys n =
    let e : row_numbers * suc k ≡ length xs + row_numbers * k = omega (arith, n) in
    ap (λ (m : ℕ). drop m (xs ++ ys)) e ∙ drop-append-add xs ys (row_numbers * k)

later_row : (k : ℕ) (xs : List ℕ) → drop (row_numbers * k) (drop row_numbers xs) ≡ drop (row_numbers * suc k) xs
later_row k xs =
    let e : row_numbers + row_numbers * k ≡ row_numbers * suc k = omega arith in
    drop-drop (row_numbers * k) row_numbers xs ∙ ap (λ (m : ℕ). drop m xs) e

not_charged : (s : Slot) (g : Found) (xs : List ℕ) → g ≡ nothing → row_fed s g xs ≡ xs
not_charged s g xs e = ap (λ (h : Found). row_fed s h xs) e

pub feed_only :
    (ss : List Slot) (fs : List Found) (xs : List ℕ) → Right ss fs → fits ss xs ≡ true
    → row_numbers * length ss ≤ length xs → (k : ℕ) → found_at k fs ≡ nothing → row_at k (fed ss fs xs) ≡ row_at k xs
unfolding fed fits found_at
feed_only ss fs xs all_right f h k e = refl
feed_only (s ∷ ss) (g ∷ fs) xs (one_right r q) f h zero e =
    let n = length-take-le row_numbers xs (omega (arith, h)) in
    take_at (row_fed s g (take row_numbers xs)) (fed ss fs (drop row_numbers xs)) row_numbers
    (fed_size s g (take row_numbers xs) n r
    (both_true (row_fits s (take row_numbers xs)) (fits ss (drop row_numbers xs)) f).0)
    ∙ not_charged s g (take row_numbers xs) e
feed_only (s ∷ ss) (g ∷ fs) xs (one_right r q) f h (suc k) e =
    let n = length-take-le row_numbers xs (omega (arith, h)) in
    let t = both_true (row_fits s (take row_numbers xs)) (fits ss (drop row_numbers xs)) f in
    ap (take row_numbers)
    (next_row k (row_fed s g (take row_numbers xs)) (fed ss fs (drop row_numbers xs))
    (fed_size s g (take row_numbers xs) n r t.0))
    ∙ feed_only ss fs (drop row_numbers xs) q t.1 (omega (arith, h, length-drop row_numbers xs)) k e
    ∙ ap (take row_numbers) (later_row k xs)
