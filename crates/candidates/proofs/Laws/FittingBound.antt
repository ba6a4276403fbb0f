-- What an entry that bounds can have in its row.
use mathlib.Core.Path.{◌≡◌, refl, sym, ap, ◌∙◌}
use mathlib.Core.Bool.{Bool, true, false}
use mathlib.Core.List.{List, [], ◌∷◌}
use Prim.Native.Nat.{ℕ, ◌/◌, ◌%◌, ◌<◌}
use native.Mathlib.Omega.{arith}
use native.Mathlib.Decide.{ℕ_discrete}
use lib.Dec.{leb}
use lib.ListN.{length, get_or, drop}
use borrow.Author.Tests.{eq-eqb, ne_eqb}
use Rattle.syntax.specs.Forms.{both, same}
use Rattle.syntax.proofs.Laws.Forms.{drop_next}
use Rattle.candidates.specs.Candidates.{Candidate, itself, single, under, up_to, holds, Kind}
use Rattle.candidates.specs.Beginnings.{begins}
use Rattle.candidates.specs.Kinds.{bounds}
use Rattle.candidates.specs.Rows.{row_numbers, row, is_zero, content_of, is_row, number_in, text_in}
use Rattle.candidates.proofs.Laws.Forming.{both_no, both_yes}
use Rattle.candidates.proofs.Laws.Fitting.{known, begins_mark, padded_same, itself_is, single_is, under_is}

module _ (n : ℕ) (xs : List ℕ) (size : length xs ≡ row_numbers) where
  abbrev k : Kind
  k = bounds leb n

  abbrev mark : ℕ
  mark = get_or xs 0 0

  abbrev value : ℕ
  value = number_in xs

  not_among : (c : Candidate) → k.is c ≡ false → content_of xs ≡ holds c → false ≡ is_row k xs
  not_among c e h = sym (known k xs size (holds c) h ∙ ap (λ (t : Bool). both t (same (row (holds c)) xs)) e)

  module _ (a : mark ≡ 0 → ⊥) where
    number_held : (mark ≡ 1 → ⊥) → (mark ≡ 2 → ⊥) → (mark ≡ 3 → ⊥) → content_of xs ≡ holds (up_to value)
    unfolding content_of
    number_held b c d = rw (ne_eqb mark 0 a, ne_eqb mark 1 b, ne_eqb mark 2 c, ne_eqb mark 3 d) refl

    tested : content_of xs ≡ holds (up_to value)
        → is_row k xs ≡ both (leb value n)
        (both (begins (4 ∷ value / 4294967296 ∷ value % 4294967296 ∷ []) xs) (is_zero (drop 3 xs)))
    unfolding row
    tested h =
        known k xs size (holds (up_to value)) h
        ∙ ap (both (leb value n))
        (padded_same (4 ∷ value / 4294967296 ∷ value % 4294967296 ∷ []) xs size (omega arith))

    pub bound_not : (mark ≡ 4 → ⊥) → false ≡ is_row k xs
    unfolding begins
    bound_not f = by (ℕ_discrete mark 1) (ℕ_discrete mark 2) (ℕ_discrete mark 3)
      where
        rest : Bool
        rest = begins (value / 4294967296 ∷ value % 4294967296 ∷ []) (drop 1 xs)

        wrong : begins (4 ∷ value / 4294967296 ∷ value % 4294967296 ∷ []) xs ≡ false
        wrong =
            ap (begins (4 ∷ value / 4294967296 ∷ value % 4294967296 ∷ [])) (drop_next xs 0 (omega (arith, size)))
            ∙ ap (λ (b : Bool). both b rest) (ne_eqb 4 mark (λ e. f (sym e)))

        by : Dec (mark ≡ 1) → Dec (mark ≡ 2) → Dec (mark ≡ 3) → false ≡ is_row k xs
        by (yes b) c d = not_among itself refl (itself_is k xs size b)
        by (no b) (yes c) d = not_among (single (text_in xs)) refl (single_is xs c)
        by (no b) (no c) (yes d) = not_among (under (text_in xs)) refl (under_is xs d)
        by (no b) (no c) (no d) =
            sym (tested (number_held b c d) ∙ ap (λ (t : Bool). both (leb value n) (both t (is_zero (drop 3 xs)))) wrong
            ∙ both_no (leb value n))

    module _ (f : mark ≡ 4) (low : get_or xs 2 0 < 4294967296) where
      held : content_of xs ≡ holds (up_to value)
      held = number_held (λ e. omega (arith, e, f)) (λ e. omega (arith, e, f)) (λ e. omega (arith, e, f))

      upper_is : value / 4294967296 ≡ get_or xs 1 0
      upper_is = omega arith

      lower_is : value % 4294967296 ≡ get_or xs 2 0
      lower_is = omega arith

      halves : begins (4 ∷ value / 4294967296 ∷ value % 4294967296 ∷ []) xs ≡ true
      unfolding begins
      halves =
          begins_mark k xs size 4 (value / 4294967296 ∷ value % 4294967296 ∷ []) f
          ∙ ap (begins (value / 4294967296 ∷ value % 4294967296 ∷ [])) (drop_next xs 1 (omega (arith, size)))
          ∙ ap (λ (b : Bool). both b (begins (value % 4294967296 ∷ []) (drop 2 xs)))
          (eq-eqb (value / 4294967296) (get_or xs 1 0) upper_is)
          ∙ ap (begins (value % 4294967296 ∷ [])) (drop_next xs 2 (omega (arith, size)))
          ∙ ap (λ (b : Bool). both b true) (eq-eqb (value % 4294967296) (get_or xs 2 0) lower_is)

      bound_row : is_row k xs ≡ both (leb value n) (is_zero (drop 3 xs))
      bound_row = tested held ∙ ap (λ (t : Bool). both (leb value n) (both t (is_zero (drop 3 xs)))) halves

      pub bound_tail : is_zero (drop 3 xs) ≡ false → false ≡ is_row k xs
      bound_tail z = sym (bound_row ∙ ap (both (leb value n)) z ∙ both_no (leb value n))

      pub bound_held : is_zero (drop 3 xs) ≡ true → leb value n ≡ is_row k xs
      bound_held z = sym (bound_row ∙ ap (both (leb value n)) z ∙ both_yes (leb value n))
