-- Entries that are kept match no more than the entries that they were made of.
use mathlib.Core.Path.{◌≡◌, refl, sym, ap, ◌∙◌}
use mathlib.Core.Bool.{Bool, true, false}
use mathlib.Core.List.{List, [], ◌∷◌, map}
use Prim.Native.Nat.{ℕ}
use native.Mathlib.Omega.{arith}
use lib.ListN.{take, drop}
use Rattle.syntax.specs.Policy.{Value, text}
use Rattle.syntax.specs.Forms.{both, either}
use Rattle.held.specs.Held.{any_of}
use Rattle.parts.proofs.Laws.Slots.{both_true}
use Rattle.decision.specs.Matching.{matches}
use Rattle.candidates.specs.Candidates.{Candidate, itself, single, under, up_to, Content, empty, holds, Kind, is_content}
use Rattle.candidates.specs.Entries.{Place, meets_at, refined, wild_kind, kind_of}
use Rattle.candidates.specs.Rows.{row_numbers, content_of, is_row}
use Rattle.refined.specs.Finishing.{kept_by, kept, text_of, kept_texts}
use Rattle.candidates.proofs.Laws.Entries.{lawful, whole_meets}
use Rattle.candidates.proofs.Laws.FittingWild.{number_not}
use Rattle.rooms.proofs.Laws.Handling.{made}
use Rattle.candidates.proofs.Laws.Refined.{refines}

-- ---- tests

pub false_true : {A : Type 0} → ◌≡◌ {A = Bool} false true → A
false_true e = let y : ◌≡◌ {A = ℕ} 0 1 = cc in absurd (omega arith)

pub either_right : (a : Bool) {b : Bool} → b ≡ true → either a b ≡ true
either_right true e = refl
either_right false e = e

-- one of two, each of which is enough
pub either_to : (a b c d : Bool) → (a ≡ true → c ≡ true) → (b ≡ true → d ≡ true) → either a b ≡ true → either c d ≡ true
either_to true b c d f g e = ap (λ (x : Bool). either x d) (f refl)
either_to false b c d f g e = either_right c (g e)

pub both_to : (a b c d : Bool) → (a ≡ true → c ≡ true) → (b ≡ true → d ≡ true) → both a b ≡ true → both c d ≡ true
both_to a b c d f g e =
    let t = both_true a b e in
    ap (λ (x : Bool). both x d) (f t.0) ∙ g t.1

-- ---- the rows of one list

unfoldable pub list_fits : Place → List Value → List ℕ → Bool
list_fits p [] ns = true
list_fits p (x ∷ xs) ns = both (is_row (kind_of p x) (take row_numbers ns)) (list_fits p xs (drop row_numbers ns))

abbrev pub any : Place → Value → List Value → Bool
any p v xs = any_of (λ x. meets_at p x v) xs

pub candidate : (p : Place) (x : Value) (ns : List ℕ) (c : Candidate) → is_row (kind_of p x) ns ≡ true
    → content_of ns ≡ holds c → (kind_of p x).is c ≡ true
candidate p x ns c f e = sym (ap (is_content (kind_of p x)) e) ∙ made (kind_of p x) ns f

refined_meets : (p : Place) (x v : Value) (c : Candidate) → (kind_of p x).is c ≡ true → meets_at p (refined x c) v ≡ true
    → meets_at p x v ≡ true
refined_meets p x v c i m =
    sym (whole_meets p x v)
    ∙ (lawful p x).inside c i v (sym ((refines p x c i).meets v) ∙ m)

pub kept_narrows : (p : Place) (v : Value) (xs : List Value) (ns : List ℕ) → list_fits p xs ns ≡ true
    → any p v (kept xs ns) ≡ true → any p v xs ≡ true
unfolding kept any_of list_fits
kept_narrows p v [] ns f e = e
kept_narrows p v (x ∷ xs) ns f e =
    by_content (content_of (take row_numbers ns)) refl e
    (kept_narrows p v xs (drop row_numbers ns) (both_true (is_row (kind_of p x) (take row_numbers ns))
    (list_fits p xs (drop row_numbers ns)) f).1)
  where
    rest : List Value
    rest = kept xs (drop row_numbers ns)

    fit : is_row (kind_of p x) (take row_numbers ns) ≡ true
    fit = (both_true (is_row (kind_of p x) (take row_numbers ns)) (list_fits p xs (drop row_numbers ns)) f).0

    by_content : (c : Content) → content_of (take row_numbers ns) ≡ c → any p v (kept_by c x rest) ≡ true
        → (any p v rest ≡ true → any p v xs ≡ true) → either (meets_at p x v) (any p v xs) ≡ true
    by_content empty g h later = either_right (meets_at p x v) (later h)
    by_content (holds c) g h later =
        either_to (meets_at p (refined x c) v) (any p v rest) (meets_at p x v) (any p v xs)
        (refined_meets p x v c (candidate p x (take row_numbers ns) c fit g)) later h

-- ---- lists of texts

module _ (p : Place) (kind : (ys : List ℕ) → kind_of p (text ys) ≡ wild_kind p ys)
    (like : (ys a : List ℕ) → meets_at p (text ys) (text a) ≡ matches ys a) (a : List ℕ) where
  pub texts_any : (xs : List (List ℕ)) → any_of (λ e. matches e a) xs ≡ any p (text a) (map text xs)
  unfolding any_of
  texts_any [] = refl
  texts_any (x ∷ xs) =
      ap (λ (b : Bool). either b (any_of (λ e. matches e a) xs)) (sym (like x a))
      ∙ ap (either (meets_at p (text x) (text a))) (texts_any xs)

  -- a candidate of a text is a text
  text_candidate : (ys : List ℕ) (c : Candidate) → (wild_kind p ys).is c ≡ true
      → matches (text_of (refined (text ys) c)) a ≡ meets_at p (refined (text ys) c) (text a)
  text_candidate ys itself i = sym (like ys a)
  text_candidate ys (single t) i = sym (like t a)
  text_candidate ys (under q) i = sym (like _ a)
  text_candidate ys (up_to n) i = false_true (sym (number_not p ys n) ∙ i)

  pub kept_any : (xs : List (List ℕ)) (ns : List ℕ) → list_fits p (map text xs) ns ≡ true
      → any_of (λ e. matches e a) (kept_texts xs ns) ≡ any p (text a) (kept (map text xs) ns)
  unfolding kept any_of list_fits
  kept_any [] ns f = refl
  kept_any (x ∷ xs) ns f =
      by_content (content_of (take row_numbers ns)) refl
      (kept_any xs (drop row_numbers ns) (both_true (is_row (kind_of p (text x)) (take row_numbers ns))
      (list_fits p (map text xs) (drop row_numbers ns)) f).1)
    where
      rest : List Value
      rest = kept (map text xs) (drop row_numbers ns)

      fit : is_row (kind_of p (text x)) (take row_numbers ns) ≡ true
      fit = (both_true (is_row (kind_of p (text x)) (take row_numbers ns)) (list_fits p (map text xs) (drop row_numbers ns)) f).0

      by_content : (c : Content) → content_of (take row_numbers ns) ≡ c
          → any_of (λ e. matches e a) (map text_of rest) ≡ any p (text a) rest
          → any_of (λ e. matches e a) (map text_of (kept_by c (text x) rest)) ≡ any p (text a) (kept_by c (text x) rest)
      by_content empty g later = later
      by_content (holds c) g later =
          ap (λ (b : Bool). either b (any_of (λ e. matches e a) (map text_of rest)))
          (text_candidate x c (sym (ap (λ (k : Kind). k.is c) (kind x))
          ∙ candidate p (text x) (take row_numbers ns) c fit g))
          ∙ ap (either (meets_at p (refined (text x) c) (text a))) later

  pub texts_narrow : (xs : List (List ℕ)) (ns : List ℕ) → list_fits p (map text xs) ns ≡ true
      → any_of (λ e. matches e a) (kept_texts xs ns) ≡ true → any_of (λ e. matches e a) xs ≡ true
  texts_narrow xs ns f e =
      texts_any xs ∙ kept_narrows p (text a) (map text xs) ns f (sym (kept_any xs ns f) ∙ e)
