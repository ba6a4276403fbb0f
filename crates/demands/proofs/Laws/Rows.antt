-- Rows that hold the least candidate of what was charged to them, and what a feed and a join make of them.
--   RowHolds s S xs     the row xs of the slot s is right for the values S;  RowsHold   rows of slots, and zeros behind
--   rows-fit            such rows are what refusal 6 asks for
--   rows_fed, rows_met  what is fed and joined is right again
--   rows-same           the same values, the same numbers
use mathlib.Core.Path.{◌≡◌, refl, sym, ap, ◌∙◌, subst}
use mathlib.Core.Bool.{Bool, true}
use mathlib.Core.Logic.{◌⊎◌, inl, inr}
use mathlib.Core.List.{List}
use Prim.Native.Nat.{ℕ}
use native.Mathlib.Omega.{arith}
use lib.Dec.{leb}
use lib.ListN.{length, get_or}
use Rattle.chars.specs.Base.{pick}
use Rattle.syntax.specs.Policy.{Effect, Allow, Deny, Value}
use Rattle.decision.specs.Decision.{same_effect, Found, nothing, found}
use Rattle.candidates.specs.Candidates.{Candidate, itself, single, under, up_to, Content, empty, holds, Kind, Lawful}
use Rattle.candidates.specs.Candidates.{is_content, joined, charged, Covers, Holds, Alike}
use Rattle.candidates.specs.Candidates as C
use Rattle.candidates.specs.Beginnings.{shared, longest_up_to}
use Rattle.candidates.specs.Kinds.{only, bounds}
use Rattle.candidates.specs.Entries.{wild_kind}
use Rattle.candidates.specs.Rows.{row_numbers, padded, row, content_of, is_row, is_zero}
use Rattle.candidates.specs.Joining.{Textual, Numeric, no_number, one_number}
use Rattle.rooms.specs.Rooms.{Slot, slot_kind, row_fits, row_fed, row_met}
use Rattle.rooms.specs.Walking.{RightAt}
use Rattle.candidates.proofs.Laws.Contents.{holds_alike, holds_content, holds_unique, joined_holds}
use Rattle.candidates.proofs.Laws.Entries.{whole_meets}
use Rattle.candidates.proofs.Laws.Bounding.{counted, counted_size}
use Rattle.candidates.proofs.Laws.Joining.{standing}
use Rattle.rooms.specs.declared.listing.Handling.{Handling}
use Rattle.rooms.proofs.Laws.Handling.{Handled, denied, alone, wild, bound, handles}
use Rattle.rooms.proofs.Laws.Handling.{Mark, no_mark, a_mark, mark_only}
use Rattle.rooms.proofs.Laws.HandlingRows.{kind_row, number_of, text_of_lem, content_none, zero_first}
use Rattle.rooms.proofs.Laws.Lengths.{charged_size, joined_textual}
use Rattle.rooms.proofs.Laws.Fed.{kind_lawful, row_of, made_fits}
use Rattle.rooms.proofs.Laws.Empty.{empty_size, empty_fits}

-- ---- one row

pub record RowHolds (s : Slot) (S : Value → Type 0) (xs : List ℕ) : Type 0 where
  pub size : length xs ≡ row_numbers
  pub is : xs ≡ row (content_of xs)
  pub right : Holds (slot_kind s) S (content_of xs)
  pub fits_it : row_fits s xs ≡ true

made_holds : (s : Slot) (S : Value → Type 0) (c : Content) → s.effect ≡ Allow → Holds (slot_kind s) S c
    → length (row c) ≡ row_numbers → RowHolds s S (row c)
made_holds s S c a h e =
    record {
      size = e;
      is = ap row (sym (row_of c e));
      right = subst (Holds (slot_kind s) S) (sym (row_of c e)) h;
      fits_it = made_fits s c a (holds_content h) e;
    }

-- ---- an empty row

first_zero : (xs : List ℕ) → xs ≡ row empty → get_or xs 0 0 ≡ 0
unfolding row padded
first_zero xs e = ap (λ (l : List ℕ). get_or l 0 0) e

empty_content : (xs : List ℕ) → xs ≡ row empty → content_of xs ≡ empty
empty_content xs e = content_none xs (first_zero xs e)

pub empty_holds : (s : Slot) (S : Value → Type 0) (xs : List ℕ) → ((v : Value) → S v → ⊥) → xs ≡ row empty
    → RowHolds s S xs
empty_holds s S xs n e =
    record {
      size = ap length e ∙ empty_size;
      is = e ∙ ap row (sym (empty_content xs e));
      right = subst (Holds (slot_kind s) S) (sym (empty_content xs e)) (C.nothing n);
      fits_it = ap (row_fits s) e ∙ empty_fits s;
    }

-- ---- fed

-- what is charged now, beside what was
abbrev pub And : (Value → Type 0) → Found → Value → Type 0
And S f v = S v ⊎ (f ≡ found v)

found_is : {y v : Value} → ◌≡◌ {A = Found} (found y) (found v) → v ≡ y
found_is e = sym cc

not_found : {A : Type 0} {v : Value} → ◌≡◌ {A = Found} nothing (found v) → A
not_found e = let z : ◌≡◌ {A = ℕ} 0 1 = cc in absurd (omega arith)

pub row_alike : {s : Slot} {S R : Value → Type 0} {xs : List ℕ} → Alike S R → RowHolds s S xs → RowHolds s R xs
row_alike a w = record { size = w.size; is = w.is; right = holds_alike a w.right; fits_it = w.fits_it }

pub row_fed_lem :
    (s : Slot) (S : Value → Type 0) (f : Found) (xs : List ℕ) → RightAt s f → RowHolds s S xs
    → RowHolds s (And S f) (row_fed s f xs)
row_fed_lem s S nothing xs r w =
    row_alike (record { to = λ v x. inl x; from = λ v e. by v e }) w
  where
    by : (v : Value) → And S nothing v → S v
    by v (inl x) = x
    by v (inr e) = not_found e
row_fed_lem s S (found y) xs r w =
    row_alike (record { to = there; from = back_again })
    (made_holds s (λ v. S v ⊎ (v ≡ y)) (charged (slot_kind s) (content_of xs) y) r.allows
    (joined_holds (kind_lawful s) w.right one)
    (charged_size s y xs w.size r w.fits_it))
  where
    covered : Covers (slot_kind s) (slot_kind s).whole y
    covered = whole_meets s.place s.entry y ∙ r.meets

    one : Holds (slot_kind s) (λ v. v ≡ y) (holds ((slot_kind s).least y))
    one = C.least {v = y} refl ((kind_lawful s).least y covered)

    there : (v : Value) → S v ⊎ (v ≡ y) → And S (found y) v
    there v (inl x) = inl x
    there v (inr e) = inr (ap found (sym e))

    back_again : (v : Value) → And S (found y) v → S v ⊎ (v ≡ y)
    back_again v (inl x) = inl x
    back_again v (inr e) = inr (found_is e)

-- ---- joined

denied_empty : (s : Slot) (xs : List ℕ) → s.effect ≡ Deny → row_fits s xs ≡ true → content_of xs ≡ empty
denied_empty s xs d f =
    content_none xs (zero_first xs (sym (ap (λ (e : Effect). pick (same_effect e Allow) (is_row (slot_kind s) xs)
    (is_zero xs)) d) ∙ f))

textual_size : (c : Content) → Textual c → length (row c) ≡ row_numbers
textual_size c t = (standing c t refl).size

joined_numeric : (n : ℕ) (c d : Content) → Numeric c → Numeric d → Numeric (joined (bounds leb n) c d)
joined_numeric n c d no_number t = t
joined_numeric n c d one_number no_number = one_number
joined_numeric n c d one_number one_number = one_number

numeric_size : (c : Content) → Numeric c → length (row c) ≡ row_numbers
numeric_size c t = counted_size (counted c t refl)

mark_size : (c : Content) → Mark c → length (row c) ≡ row_numbers
unfolding row padded
mark_size c no_mark = refl
mark_size c a_mark = refl

only_joined : (m : Value → Bool) (c d : Content) → Mark c → Mark d → Mark (joined (only m) c d)
unfolding longest_up_to shared
only_joined m c d no_mark t = t
only_joined m c d a_mark no_mark = a_mark
only_joined m c d a_mark a_mark = a_mark

module _ (s : Slot) (xs ys : List ℕ) (n : length xs ≡ row_numbers) (m : length ys ≡ row_numbers)
    (f : row_fits s xs ≡ true) (g : row_fits s ys ≡ true) where
  abbrev both_held_lem : Kind → Content
  both_held_lem k = joined k (content_of xs) (content_of ys)

  size_as : {k : Kind} → slot_kind s ≡ k → length (row (both_held_lem k)) ≡ row_numbers → length (row_met s xs ys) ≡ row_numbers
  size_as e h = ap (λ (k : Kind). length (row (both_held_lem k))) e ∙ h

  met_size : length (row_met s xs ys) ≡ row_numbers
  met_size = by (handles s)
    where
      by : {k : Handling} → Handled s k → length (row_met s xs ys) ≡ row_numbers
      by (denied d) =
          ap (λ (c : Content). length (row (joined (slot_kind s) c (content_of ys)))) (denied_empty s xs d f)
          ∙ ap (λ (c : Content). length (row c)) (denied_empty s ys d g) ∙ empty_size
      by (alone w) =
          size_as w.kind
          (mark_size (both_held_lem (only w.test))
          (only_joined w.test (content_of xs) (content_of ys)
          (mark_only w.test xs (kind_row s xs w.allows w.kind f))
          (mark_only w.test ys (kind_row s ys w.allows w.kind g))))
      by (wild w) =
          size_as w.kind
          (textual_size (both_held_lem (wild_kind s.place w.symbols))
          (joined_textual s.place w.symbols (content_of xs) (content_of ys) (text_of_lem s xs f n w).textual
          (text_of_lem s ys g m w).textual))
      by (bound b) =
          size_as b.kind
          (numeric_size (both_held_lem (bounds leb b.most))
          (joined_numeric b.most (content_of xs) (content_of ys) (number_of s xs f b).numeric
          (number_of s ys g b).numeric))

-- of a Deny entry nothing is held
denied_none : (s : Slot) (S : Value → Type 0) (xs : List ℕ) → s.effect ≡ Deny → RowHolds s S xs → (v : Value) → S v → ⊥
denied_none s S xs d w = by (content_of xs) w.right (denied_empty s xs d w.fits_it)
  where
    by : (c : Content) → Holds (slot_kind s) S c → c ≡ empty → (v : Value) → S v → ⊥
    by c (C.nothing n) e = n
    by c (C.least {c = a} x l) e = λ v y. let z : ◌≡◌ {A = ℕ} 0 1 = cc in absurd (omega arith)

pub row_met_lem :
    (s : Slot) (S R : Value → Type 0) (xs ys : List ℕ) → RowHolds s S xs → RowHolds s R ys
    → RowHolds s (λ v. S v ⊎ R v) (row_met s xs ys)
row_met_lem s S R xs ys w z = by s.effect refl
  where
    holds_both : Holds (slot_kind s) (λ v. S v ⊎ R v) (joined (slot_kind s) (content_of xs) (content_of ys))
    holds_both = joined_holds (kind_lawful s) w.right z.right

    none : s.effect ≡ Deny → (v : Value) → S v ⊎ R v → ⊥
    none d v (inl x) = denied_none s S xs d w v x
    none d v (inr y) = denied_none s R ys d z v y

    by : (e : Effect) → s.effect ≡ e → RowHolds s (λ v. S v ⊎ R v) (row_met s xs ys)
    by Allow e =
        made_holds s (λ v. S v ⊎ R v) (joined (slot_kind s) (content_of xs) (content_of ys)) e holds_both
        (met_size s xs ys w.size z.size w.fits_it z.fits_it)
    by Deny e =
        empty_holds s (λ v. S v ⊎ R v) (row_met s xs ys) (none e)
        (ap (λ (c : Content). row (joined (slot_kind s) c (content_of ys))) (denied_empty s xs e w.fits_it)
        ∙ ap row (denied_empty s ys e z.fits_it))

-- ---- the same values

pub row_same : (s : Slot) (S R : Value → Type 0) (xs ys : List ℕ) → Alike S R → RowHolds s S xs → RowHolds s R ys → xs ≡ ys
row_same s S R xs ys a w z =
    w.is ∙ ap row (holds_unique (kind_lawful s) a w.right z.right) ∙ sym z.is
