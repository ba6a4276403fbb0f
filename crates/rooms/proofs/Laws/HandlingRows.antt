-- One row charged and joined, by the number that the list of entries has for its slot.
use mathlib.Core.Path.{◌≡◌, refl, sym, ap, ◌∙◌, subst}
use mathlib.Core.Bool.{Bool, true, false}
use mathlib.Core.List.{List, [], ◌∷◌}
use mathlib.Core.Logic.{◌⊎◌}
use Prim.Native.Nat.{ℕ, ◌≤◌}
use native.Mathlib.Omega.{arith}
use lib.Dec.{eqb, leb}
use lib.ListN.{length, get_or}
use borrow.Author.Tests.{eq-eqb, eqb-true}
use Rattle.chars.specs.Base.{pick}
use Rattle.syntax.specs.Limits.{entry_characters}
use Rattle.syntax.specs.Policy.{Effect, Allow, Deny, Operator, StringLike, NumericLessThanEquals, Value, text, number}
use Rattle.held.specs.Held.{held_number, held_value}
use Rattle.held.specs.Lying.{Lies}
use Rattle.held.proofs.Laws.Parts.{IsText, IsNumber}
use Rattle.held.proofs.Laws.Places.{Texted, texted}
use Rattle.decision.specs.Decision.{meets, found}
use Rattle.candidates.specs.Candidates.{empty, Kind, joined, charged}
use Rattle.candidates.specs.Kinds.{bounds}
use Rattle.candidates.specs.Entries.{wild_kind}
use Rattle.candidates.specs.Rows.{row_numbers, padded, row, content_of, is_row, is_zero}
use Rattle.candidates.specs.Joining.{Texted as TextedRow, Numbered}
use Rattle.rooms.specs.Rooms.{Slot, slot_kind, row_fits, row_fed, row_met}
use Rattle.rooms.specs.Listing.{SlotAt}
use Rattle.rooms.specs.declared.listing.Handling.TheVariants as H
use Rattle.rooms.specs.declared.listing.Note.{Note}
use Rattle.rooms.specs.Walking.{Chargeable, Short}
use Rattle.candidates.proofs.Laws.ChargingLeast.{mark_row}
use Rattle.candidates.proofs.Laws.Fitting.{row_zero}
use Rattle.candidates.proofs.Laws.Joining.{joined_nothing}
use Rattle.rooms.proofs.Laws.Handling.{Alone, Wild, Bound, Marked, never_any, itself_only, as_marked, back}
use Rattle.rooms.proofs.Laws.Handling.{fits_denied, fits_allowed}
use Rattle.rooms.proofs.Laws.Handling.{TextRow, text_row_lem, NumberRow, number_row_lem, only_charged, only_joined}

-- ---- what fits

pub kind_row :
    (s : Slot) (xs : List ℕ) {k : Kind} → s.effect ≡ Allow → slot_kind s ≡ k → row_fits s xs ≡ true → is_row k xs ≡ true
kind_row s xs o e f = fits_allowed s xs o e ∙ f

pub zero_first : (xs : List ℕ) → is_zero xs ≡ true → get_or xs 0 0 ≡ 0
unfolding is_zero
zero_first [] e = refl
zero_first (x ∷ xs) e = by (eqb x 0) refl e
  where
    by : (b : Bool) → eqb x 0 ≡ b → pick b (is_zero xs) false ≡ true → x ≡ 0
    by true z f = eqb-true x 0 z
    by false z f = let y : ◌≡◌ {A = ℕ} 0 1 = cc in absurd (omega arith)

pub content_none : (xs : List ℕ) → get_or xs 0 0 ≡ 0 → content_of xs ≡ empty
unfolding content_of
content_none xs e = rw (eq-eqb (get_or xs 0 0) 0 e) refl

-- whatever fits is the row of what it holds
pub row_back : (s : Slot) (xs : List ℕ) → length xs ≡ row_numbers → row_fits s xs ≡ true → xs ≡ row (content_of xs)
row_back s xs n f = by s.effect refl
  where
    by : (e : Effect) → s.effect ≡ e → xs ≡ row (content_of xs)
    by Allow e = back (slot_kind s) xs (kind_row s xs e refl f)
    by Deny e =
        let z : is_zero xs ≡ true = fits_denied s xs e ∙ f in
        back (slot_kind s) xs (sym (row_zero (slot_kind s) xs n (zero_first xs z)) ∙ z)

-- ---- values that are charged

meets_number : (x : Value) (m : ℕ) (y : Value) → meets NumericLessThanEquals x y ≡ true → IsNumber y
meets_number (text ys) m (text cs) e = let y : ◌≡◌ {A = ℕ} 0 1 = cc in absurd (omega arith)
meets_number (number n) m (text cs) e = let y : ◌≡◌ {A = ℕ} 0 1 = cc in absurd (omega arith)
meets_number x m (number k) e = record { value = k; is = refl }

meets_text : (x y : Value) → meets StringLike x y ≡ true → IsText y
meets_text x (text cs) e = record { characters = cs; is = refl }
meets_text (text ys) (number k) e = let y : ◌≡◌ {A = ℕ} 0 1 = cc in absurd (omega arith)
meets_text (number n) (number k) e = let y : ◌≡◌ {A = ℕ} 0 1 = cc in absurd (omega arith)

pub bound_value : {s : Slot} (b : Bound s) (y : Value) → Chargeable s y → IsNumber y
bound_value {s} b y r =
    meets_number s.entry 0 y
    (sym (ap (λ (o : Operator). meets o s.entry y) b.numeric) ∙ r.meets)

pub wild_value : {s : Slot} (w : Wild s) (y : Value) → Chargeable s y → IsText y
wild_value {s} w y r =
    meets_text s.entry y (sym (ap (λ (o : Operator). meets o s.entry y) w.like) ∙ r.meets)

pub number_lies :
    {at : List ℕ} {v : ℕ} {y : Value} → Lies at v (held_value y) → (t : IsNumber y) → Lies at v (held_number t.value)
number_lies {at} {v} l t = subst (λ (x : Value). Lies at v (held_value x)) t.is l

pub text_lies :
    {at : List ℕ} {v : ℕ} {y : Value} → Lies at v (held_value y) → (t : IsText y) → Texted at v t.characters
text_lies {at} {v} l t = texted t.characters (subst (λ (x : Value). Lies at v (held_value x)) t.is l)

pub text_short : {y : Value} → Short y → (t : IsText y) → length t.characters ≤ entry_characters
text_short s t = subst Short t.is s

-- ---- what rows hold

pub number_of : (s : Slot) (xs : List ℕ) → row_fits s xs ≡ true → (b : Bound s) → NumberRow xs
number_of s xs f b = number_row_lem b.most xs (kind_row s xs b.allows b.kind f)

pub text_of_lem : (s : Slot) (xs : List ℕ) → row_fits s xs ≡ true → length xs ≡ row_numbers → (w : Wild s) → TextRow xs
text_of_lem s xs f n w = text_row_lem s.place w.symbols xs n (kind_row s xs w.allows w.kind f)

pub row_numbers_lem : (s : Slot) (xs : List ℕ) → row_fits s xs ≡ true → Bound s → Numbered xs
row_numbers_lem s xs f b =
    let w = number_of s xs f b in record { content = content_of xs; numeric = w.numeric; is = w.is }

pub row_texts : (s : Slot) (xs : List ℕ) → row_fits s xs ≡ true → length xs ≡ row_numbers → Wild s → TextedRow xs
row_texts s xs f n w =
    let t = text_of_lem s xs f n w in record { content = content_of xs; textual = t.textual; is = t.is }

-- ---- charged

module _ (s : Slot) (y : Value) (xs : List ℕ) (f : row_fits s xs ≡ true) where
  fed_as : {k : Kind} {out : List ℕ} → slot_kind s ≡ k → out ≡ row (charged k (content_of xs) y)
      → out ≡ row_fed s (found y) xs
  fed_as {k} e g = g ∙ ap (λ (j : Kind). row (charged j (content_of xs) y)) (sym e)

  pub fed_alone : (w : Alone s) {out : List ℕ} → out ≡ padded (1 ∷ []) → out ≡ row_fed s (found y) xs
  fed_alone w g =
      fed_as w.kind
      (g ∙ sym mark_row ∙ ap row (sym (only_charged w.test y xs (kind_row s xs w.allows w.kind f))))

  pub fed_bound : (b : Bound s) (t : IsNumber y) {out : List ℕ} {n : ℕ} → n ≡ t.value
      → out ≡ row (charged (bounds leb b.most) (content_of xs) (number n)) → out ≡ row_fed s (found y) xs
  fed_bound b t e g =
      fed_as b.kind
      (g ∙ ap (λ (v : Value). row (charged (bounds leb b.most) (content_of xs) v)) (ap number e ∙ sym t.is))

  pub fed_wild : (w : Wild s) (t : IsText y) {out us vs : List ℕ} → us ≡ w.symbols → vs ≡ t.characters
      → out ≡ row (charged (wild_kind s.place us) (content_of xs) (text vs)) → out ≡ row_fed s (found y) xs
  fed_wild w t {us = us} d e g =
      fed_as w.kind
      (g ∙ ap (λ (v : Value). row (charged (wild_kind s.place us) (content_of xs) v)) (ap text e ∙ sym t.is)
      ∙ ap (λ (zs : List ℕ). row (charged (wild_kind s.place zs) (content_of xs) y)) d)

-- ---- joined

module _ (s : Slot) (xs ys : List ℕ) (f : row_fits s xs ≡ true) (g : row_fits s ys ≡ true) where
  met_as : {k : Kind} {out : List ℕ} → slot_kind s ≡ k → out ≡ row (joined k (content_of xs) (content_of ys))
      → out ≡ row_met s xs ys
  met_as {k} e h = h ∙ ap (λ (j : Kind). row (joined j (content_of xs) (content_of ys))) (sym e)

  pub met_bound : (b : Bound s) {out : List ℕ}
      → out ≡ row (joined (bounds leb b.most) (content_of xs) (content_of ys)) → out ≡ row_met s xs ys
  met_bound b h = met_as b.kind h

  pub met_wild : (w : Wild s) {out us : List ℕ} → us ≡ w.symbols
      → out ≡ row (joined (wild_kind s.place us) (content_of xs) (content_of ys)) → out ≡ row_met s xs ys
  met_wild w d h =
      met_as w.kind
      (h ∙ ap (λ (us : List ℕ). row (joined (wild_kind s.place us) (content_of xs) (content_of ys))) d)

  pub met_nothing : length xs ≡ row_numbers → get_or ys 0 0 ≡ 0 → xs ≡ row_met s xs ys
  met_nothing n z =
      row_back s xs n f
      ∙ ap row (sym (ap (joined (slot_kind s) (content_of xs)) (content_none ys z) ∙ joined_nothing (slot_kind s)
      (content_of xs)))

  -- a Deny entry has no mark
  pub met_marked : {run : List ℕ} {x : Note} (a : SlotAt run x s) → (x.handling ≡ H.Nothing) ⊎ (x.handling ≡ H.Itself)
      → (get_or ys 0 0 ≡ 0 → ⊥) → {out : List ℕ} → out ≡ padded (1 ∷ []) → out ≡ row_met s xs ys
  met_marked a w n {out} o = by (as_marked a w)
    where
      by : Marked s → out ≡ row_met s xs ys
      by (never_any d) = absurd (n (zero_first ys (fits_denied s ys d ∙ g)))
      by (itself_only m) =
          met_as m.kind
          (o ∙ sym mark_row ∙ ap row (sym (only_joined m.test xs ys (kind_row s xs m.allows m.kind f)
          (kind_row s ys m.allows m.kind g) n)))
