-- A row is one to one with its content, where the content is of a row's size.
--   content_row      the content of a row is what it was made of
--   row_injective    so no two contents have one row
--   is_row_made      `is_row` says exactly that the numbers are the row of an entry's content
use mathlib.Core.Path.{◌≡◌, refl, sym, ap, ◌∙◌}
use mathlib.Core.Bool.{Bool, true}
use mathlib.Core.List.{List}
use Prim.Native.Nat.{ℕ, ◌≤◌}
use native.Mathlib.Nat.{div-add-mod'}
use lib.ListN.{length}
use lib.Seq.{take-append_seam}
use Rattle.syntax.specs.Forms.{both, same}
use Rattle.syntax.proofs.Laws.Same.{same_sound, same_complete}
use Rattle.parts.proofs.Laws.Slots.{both_true}
use Rattle.candidates.specs.Candidates.{itself, single, under, up_to, Content, empty, holds, Kind}
use Rattle.candidates.specs.Candidates.{is_content}
use Rattle.candidates.specs.Rows.{text_characters, padded, row, content_of, is_row}

-- texts of at most 254 characters; numbers have two halves in any case
pub data Sized : Content → Type 0 where
  no_row : Sized empty
  whole_row : Sized (holds itself)
  text_row_lem : {t : List ℕ} → length t ≤ text_characters → Sized (holds (single t))
  begun_row : {q : List ℕ} → length q ≤ text_characters → Sized (holds (under q))
  number_row_lem : {n : ℕ} → Sized (holds (up_to n))

pub content_row : (c : Content) → Sized c → content_of (row c) ≡ c
unfolding content_of row padded
content_row c no_row = refl
content_row c whole_row = refl
content_row c (text_row_lem {t} h) =
    ap (λ (l : List ℕ). holds (single l)) (take-append_seam t _)
content_row c (begun_row {q} h) =
    ap (λ (l : List ℕ). holds (under l)) (take-append_seam q _)
content_row c (number_row_lem {n}) = ap (λ (m : ℕ). holds (up_to m)) (div-add-mod' n 4294967296)

pub row_injective : (a b : Content) → Sized a → Sized b → row a ≡ row b → a ≡ b
row_injective a b s t e = sym (content_row a s) ∙ ap content_of e ∙ content_row b t

-- ---- the test of one row

pub record Made (k : Kind) (xs : List ℕ) : Type 0 where
  pub content : Content
  pub among : is_content k content ≡ true
  pub is : row content ≡ xs

pub is_row_made : (k : Kind) (xs : List ℕ) → is_row k xs ≡ true → Made k xs
unfolding is_row
is_row_made k xs e =
    let t = both_true (is_content k (content_of xs)) (same (row (content_of xs)) xs) e in
    record { content = content_of xs; among = t.0; is = same_sound (row (content_of xs)) xs t.1 }

pub made_is_row : (k : Kind) (c : Content) → Sized c → is_content k c ≡ true → is_row k (row c) ≡ true
unfolding is_row
made_is_row k c s e =
    let back = content_row c s in
    ap (λ (d : Content). both (is_content k d) (same (row d) (row c))) back
    ∙ ap (λ (b : Bool). both b (same (row c) (row c))) e ∙ same_complete refl
