-- Rows that hold no number: what stands in them, by their contents.
use mathlib.Core.Path.{◌≡◌, refl, sym, ap, ◌∙◌, subst}
use mathlib.Core.Bool.{Bool, true, false}
use mathlib.Core.List.{List, [], ◌∷◌}
use Prim.Native.Nat.{ℕ, ◌+◌, ◌-◌, ◌≤◌}
use native.Mathlib.Omega.{arith}
use lib.Dec.{eqb}
use lib.ListN.{length, get_or, take, drop, length-take, length-drop}
use lib.Seq.{take-append_seam, take-take}
use borrow.Author.Tests.{eq-eqb, ne_eqb}
use Rattle.chars.specs.Base.{pick}
use Rattle.chars.specs.Putting.{lay}
use Rattle.syntax.specs.Forms.{both, same}
use Rattle.candidates.specs.Candidates.{Candidate, itself, single, under, up_to, Content, empty, holds, Kind, joined}
use Rattle.candidates.specs.Beginnings.{shared}
use Rattle.candidates.specs.Rows.{row_numbers, text_characters, padded, row, text_in}
use Rattle.candidates.specs.Joining.{Textual, no_text, whole_text, single_text, begun_text, content_text, Texted}
use Rattle.candidates.proofs.Laws.Rows.{padded_length}
use Rattle.candidates.proofs.Laws.FittingText.{part, part_is}

-- ---- what stands in a row

abbrev pub mark_by : Candidate → ℕ
mark_by itself = 1
mark_by (single t) = 2
mark_by (under q) = 3
mark_by (up_to n) = 4

abbrev pub mark_of : Content → ℕ
mark_of empty = 0
mark_of (holds c) = mark_by c

pub record Standing (c : Content) (xs : List ℕ) : Type 0 where
  pub size : length xs ≡ row_numbers
  pub mark : get_or xs 0 0 ≡ mark_of c
  pub told : get_or xs 1 0 ≤ text_characters
  pub text : text_in xs ≡ content_text c

of_row : (c : Content) → Textual c → Standing c (row c)
unfolding row padded
of_row c no_text = record { size = refl; mark = refl; told = omega arith; text = refl }
of_row c whole_text = record { size = refl; mark = refl; told = omega arith; text = refl }
of_row c (single_text {t} h) =
    record {
      size = padded_length (2 ∷ length t ∷ t) (omega (arith, h));
      mark = refl;
      told = h;
      text = take-append_seam t _;
    }
of_row c (begun_text {q} h) =
    record {
      size = padded_length (3 ∷ length q ∷ q) (omega (arith, h));
      mark = refl;
      told = h;
      text = take-append_seam q _;
    }

pub standing : {xs : List ℕ} (c : Content) → Textual c → xs ≡ row c → Standing c xs
standing c t e = subst (Standing c) (sym e) (of_row c t)

pub stands : {xs : List ℕ} (w : Texted xs) → Standing w.content xs
stands w = standing w.content w.textual w.is

-- ---- nothing in the second

pub joined_nothing : (k : Kind) (c : Content) → joined k c empty ≡ c
joined_nothing k empty = refl
joined_nothing k (holds a) = refl

-- ---- copied

pub lay_all : (xs out : List ℕ) → length xs ≡ length out → lay xs out ≡ xs
unfolding lay
lay_all [] [] e = refl
lay_all [] (o ∷ out) e = absurd (omega (arith, e))
lay_all (x ∷ xs) [] e = absurd (omega (arith, e))
lay_all (x ∷ xs) (o ∷ out) e = ap (λ (l : List ℕ). x ∷ l) (lay_all xs out (omega (arith, e)))

-- ---- what is shared

pub shared_take : (s t : List ℕ) → take (length (shared s t)) s ≡ shared s t
unfolding shared
shared_take [] t = refl
shared_take (x ∷ s) [] = refl
shared_take (x ∷ s) (c ∷ t) = by (eqb x c) (shared_take s t)
  where
    by : (b : Bool) → take (length (shared s t)) s ≡ shared s t
        → take (length (pick b (x ∷ shared s t) [])) (x ∷ s) ≡ pick b (x ∷ shared s t) []
    by true e = ap (λ (l : List ℕ). x ∷ l) e
    by false e = refl

pub shared_few : (s t : List ℕ) → length (shared s t) ≤ length s
shared_few s t = omega (arith, ap length (shared_take s t), length-take (length (shared s t)) s)

-- n of them are shared with t
pub shared_part :
    (xs t : List ℕ) (n : ℕ) → n ≡ length (shared (text_in xs) t) → take (n + 2 - 2) (drop 2 xs) ≡ shared (text_in xs) t
shared_part xs t n e =
    let told = get_or xs 1 0 in
    let few : n ≤ told = omega (arith, e, shared_few (text_in xs) t, length-take told (drop 2 xs)) in
    let f : n + 2 - 2 ≡ n = omega arith in
    ap (λ (k : ℕ). take k (drop 2 xs)) f ∙ sym (take-take n told (drop 2 xs) few)
    ∙ ap (λ (k : ℕ). take k (text_in xs)) e ∙ shared_take (text_in xs) t

-- ---- one single text in both

abbrev pub one_row : List ℕ → List ℕ → Bool
one_row xs ys = both (eqb (get_or xs 0 0) 2) (same xs ys)

module _ (xs ys : List ℕ) where
  pub one_not : (get_or xs 0 0 ≡ 2 → ⊥) → false ≡ one_row xs ys
  one_not s = sym (ap (λ (b : Bool). both b (same xs ys)) (ne_eqb (get_or xs 0 0) 2 s))

  pub one_same : get_or xs 0 0 ≡ 2 → same xs ys ≡ one_row xs ys
  one_same e = sym (ap (λ (b : Bool). both b (same xs ys)) (eq-eqb (get_or xs 0 0) 2 e))

-- ---- the shared beginning as the code has it

pub shared_most :
    {xs ys : List ℕ} {c d : Content} {n : ℕ} → Standing c xs → Standing d ys → n ≡ length (shared (part xs) (part ys))
    → n ≤ text_characters
shared_most {xs} {ys} s t e =
    omega (
      arith,
      e,
      s.told,
      shared_few (part xs) (part ys),
      length-take (get_or xs 1 0 + 2 - 2) (drop 2 xs),
    )

pub part_few : {xs : List ℕ} {c : Content} → Standing c xs → (k : ℕ) → length (take k (drop 2 xs)) ≤ text_characters
part_few {xs} s k = omega (arith, s.size, length-take k (drop 2 xs), length-drop 2 xs)

pub shared_is :
    {xs ys : List ℕ} {n : ℕ} (c d : Content) → Standing c xs → Standing d ys → n ≡ length (shared (part xs) (part ys))
    → take (n + 2 - 2) (drop 2 xs) ≡ shared (content_text c) (content_text d)
shared_is {xs} {ys} {n} c d s t e =
    let f = e ∙ ap (λ (l : List ℕ). length (shared l (part ys))) (part_is xs)
    ∙ ap (λ (l : List ℕ). length (shared (text_in xs) l)) (part_is ys) in
    shared_part xs (text_in ys) n f ∙ ap (λ (l : List ℕ). shared l (text_in ys)) s.text
    ∙ ap (shared (content_text c)) t.text
