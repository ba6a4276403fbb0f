-- Which of the four an entry is written as, by what stands first in its row.
use mathlib.Core.Path.{◌≡◌, refl, sym, ap, ◌∙◌}
use mathlib.Core.List.{List, [], ◌∷◌, ◌++◌}
use Prim.Native.Nat.{ℕ}
use native.Mathlib.Omega.{arith}
use lib.ListN.{length, get_or}
use borrow.Author.Tests.{eq-eqb}
use Rattle.syntax.specs.Policy.{Value, text, number, star}
use Rattle.held.specs.Held.{held_text}
use Rattle.held.specs.Lying.{Lies}
use Rattle.candidates.specs.Candidates.{Candidate, itself, single, under, up_to, Content, empty, holds}
use Rattle.candidates.specs.Entries.{refined}
use Rattle.candidates.specs.Rows.{row_numbers, padded, row, content_of}
use Rattle.refined.specs.Keeping.{Writable, KeptEntry, HeldEntry, Begun, Bounded}
use Rattle.candidates.proofs.Laws.Joining.{mark_by}
use Rattle.refined.proofs.Laws.Keeping.{Short, short, writ_content, row_size, row_mark, text_lies}

-- ---- by the mark

pub record AsText (x : Value) (c : Candidate) (xs : List ℕ) : Type 0 where
  pub characters : List ℕ
  pub is : refined x c ≡ text characters
  pub lies : Lies xs 1 (held_text characters)

pub record AsBegun (x : Value) (c : Candidate) (xs : List ℕ) : Type 0 where
  pub begun : Begun xs
  pub is : refined x c ≡ text (begun.text ++ (star ∷ []))

pub record AsBound (x : Value) (c : Candidate) (xs : List ℕ) : Type 0 where
  pub bound : Bounded xs
  pub is : refined x c ≡ number bound.number

by_itself_lem : (x : Value) (c : Candidate) → mark_by c ≡ 1 → refined x c ≡ x
by_itself_lem x itself e = refl
by_itself_lem x (single t) e = absurd (omega (arith, e))
by_itself_lem x (under q) e = absurd (omega (arith, e))
by_itself_lem x (up_to n) e = absurd (omega (arith, e))

module _ {xs : List ℕ} (x : Value) where
  by_text : (c : Candidate) → Short (holds c) → xs ≡ row (holds c) → mark_by c ≡ 2 → AsText x c xs
  unfolding row
  by_text itself h r e = absurd (omega (arith, e))
  by_text (single t) h r e = record { characters = t; is = refl; lies = text_lies 2 t h r }
  by_text (under q) h r e = absurd (omega (arith, e))
  by_text (up_to n) h r e = absurd (omega (arith, e))

  by_begun : (c : Candidate) → Short (holds c) → xs ≡ row (holds c) → mark_by c ≡ 3 → AsBegun x c xs
  by_begun itself h r e = absurd (omega (arith, e))
  by_begun (single t) h r e = absurd (omega (arith, e))
  by_begun (under q) h r e = record { begun = record { text = q; short = h; is = r }; is = refl }
  by_begun (up_to n) h r e = absurd (omega (arith, e))

  by_bound :
      (c : Candidate) → Short (holds c) → xs ≡ row (holds c) → (mark_by c ≡ 1 → ⊥) → (mark_by c ≡ 2 → ⊥)
      → (mark_by c ≡ 3 → ⊥) → AsBound x c xs
  by_bound itself h r a b c = absurd (a refl)
  by_bound (single t) h r a b c = absurd (b refl)
  by_bound (under q) h r a b c = absurd (c refl)
  by_bound (up_to n) h r a b c = record { bound = record { number = n; short = h; is = r }; is = refl }

module _ {run xs : List ℕ} {e : ℕ} (y : HeldEntry run e xs) where
  marked : get_or xs 0 0 ≡ mark_by y.candidate
  marked = ap (λ (l : List ℕ). get_or l 0 0) y.is ∙ row_mark y.candidate

  pub held_size : length xs ≡ row_numbers
  held_size = ap length y.is ∙ row_size (holds y.candidate) (short y.writable)

  pub held_itself : get_or xs 0 0 ≡ 1 → refined y.entry y.candidate ≡ y.entry
  held_itself m = by_itself_lem y.entry y.candidate (sym marked ∙ m)

  pub held_text_lem : get_or xs 0 0 ≡ 2 → AsText y.entry y.candidate xs
  held_text_lem m = by_text y.entry y.candidate (short y.writable) y.is (sym marked ∙ m)

  pub held_begun : get_or xs 0 0 ≡ 3 → AsBegun y.entry y.candidate xs
  held_begun m = by_begun y.entry y.candidate (short y.writable) y.is (sym marked ∙ m)

  pub held_bound :
      (get_or xs 0 0 ≡ 1 → ⊥) → (get_or xs 0 0 ≡ 2 → ⊥) → (get_or xs 0 0 ≡ 3 → ⊥) → AsBound y.entry y.candidate xs
  held_bound a b c =
      by_bound y.entry y.candidate (short y.writable) y.is (λ m. a (marked ∙ m)) (λ m. b (marked ∙ m))
      (λ m. c (marked ∙ m))

-- ---- empty or not

pub content_none : (xs : List ℕ) → get_or xs 0 0 ≡ 0 → content_of xs ≡ empty
unfolding content_of
content_none xs e = rw (eq-eqb (get_or xs 0 0) 0 e) refl

-- an entry whose row holds something
pub record Holding (run : List ℕ) (e : ℕ) (xs : List ℕ) (x : Value) : Type 0 where
  pub held : HeldEntry run e xs
  pub same : held.entry ≡ x
  pub is : content_of xs ≡ holds held.candidate

pub holding :
    {run xs : List ℕ} {e : ℕ} (y : KeptEntry run e xs) → (get_or xs 0 0 ≡ 0 → ⊥) → Holding run e xs y.entry
unfolding row padded
holding {run} {xs} {e} y s = by y.writ.content y.writ.writable y.writ.is (writ_content y.writ)
  where
    by : (c : Content) → Writable y.entry c → xs ≡ row c → content_of xs ≡ c → Holding run e xs y.entry
    by empty w r t = absurd (s (ap (λ (l : List ℕ). get_or l 0 0) r))
    by (holds c) w r t =
        record {
          held = record { entry = y.entry; candidate = c; lies = y.lies; writable = w; is = r };
          same = refl;
          is = t;
        }
