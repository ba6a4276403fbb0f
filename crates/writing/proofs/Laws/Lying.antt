-- What is added for entries, rows and statements that lie in a run.
use Prim.{tt}
use mathlib.Core.Path.{◌≡◌, refl, sym, ap, ◌∙◌}
use mathlib.Core.List.{List, [], ◌∷◌, ◌++◌, map, append_assoc}
use Prim.Native.Nat.{ℕ, suc, ◌+◌, ◌≤◌, ◌<◌}
use native.Mathlib.Numerals.{add-one}
use native.Mathlib.Omega.{arith}
use lib.Dec.{eqb}
use lib.ListN.{length, get_or}
use mathlib.Core.Bool.{Bool, true, false}
use Rattle.chars.specs.Base.{pick}
use Rattle.writing.specs.declared.spelling.Form.{Form}
use Rattle.writing.specs.declared.spelling.Form.TheVariants.{Action, Entry}
use Rattle.writing.specs.Spelling.{pieces, form_of}
use Rattle.chars.specs.Written.{written_text}
use Rattle.syntax.specs.Policy.{Value, text, number, Row, Policy}
use Rattle.syntax.specs.Words.{condition_word}
use Rattle.held.specs.Held.{held_number, held_value, held_list, held_row, held_statement, held, operator_number, mark}
use Rattle.held.specs.Lying.{Lies, Lying}
use Rattle.held.proofs.Laws.Runs.{lies_first, lies_short}
use Rattle.held.proofs.Laws.Places.{text_from, texted}
use Rattle.writing.specs.WrittenForm.{bare, spelled, digits_of}
use Rattle.writing.specs.declared.sink.Sink.{Sink}
use Rattle.writing.specs.Showing.{Adds}
use Rattle.writing.specs.Bytes.{name, between, listed, entry_body, turning, row_bytes, rows_from}
use Rattle.writing.specs.Bytes.{condition_bytes}
use Rattle.writing.proofs.Laws.Showing.{adds_none, adds_then, adds_as}
use Rattle.writing.proofs.Laws.Telling.{Telling, Freely, Piece}

-- ---- an entry between its quotes

form_pieces : (k : ℕ) (ys : List ℕ)
    → pieces (form_of k) ys ≡ written_text (pick (eqb k 0) (map bare ys) (spelled (eqb k 2) ys))
form_pieces k ys = by (eqb k 0)
  where
    by : (b : Bool)
        → pieces (pick b Action (Entry (eqb k 2))) ys ≡ written_text (pick b (map bare ys) (spelled (eqb k 2) ys))
    by true = refl
    by false = refl

module _ {run : List ℕ} {s t : Sink} {p : ℕ} (k : ℕ) where
  pub body_number :
      (x : Value) → Lies run p (held_value x) → mark ≤ get_or run p 0
      → ((n : ℕ) → Lies run p (held_number n) → Adds (digits_of n) s t)
      → Adds (entry_body k x) s t
  unfolding entry_body
  body_number (text cs) l h f = absurd (omega (arith, lies_first l, lies_short l))
  body_number (number n) l h f = f n l

  pub body_text :
      (x : Value) → Lies run p (held_value x) → get_or run p 0 < mark → {f : Form} → f ≡ form_of k
      → Adds (pieces f (text_from run p)) s t → Adds (entry_body k x) s t
  unfolding entry_body
  body_text (text cs) l h {f} e a =
      adds_as (ap (λ (g : Form). pieces g (text_from run p)) e ∙ ap (pieces (form_of k)) (texted cs l).is
      ∙ form_pieces k cs) a
  body_text (number n) l h e a = absurd (omega (arith, lies_first l))

-- ---- one thing of a list, behind i others

pub listed_piece :
    {A : Type 0} {h : A → List ℕ} (f : A → List ℕ) {run total : List ℕ} {s₀ s t u : Sink} {n i p q : ℕ}
    (w : Telling h (listed f) Freely run total s₀ n i p i s) (x : A) (xs : List A) → q ≡ p + length (h x)
    → Adds (between i) s t → Adds (f x) t u → Piece w x xs q (i + 1) u
unfolding listed
listed_piece f {i = i} w x xs e a b =
    record {
      far = e;
      piece = between i ++ f x;
      adds = adds_then a b;
      tells = sym (append_assoc (between i) (f x) (listed f (suc i) xs))
          ∙ ap (λ (k : ℕ). (between i ++ f x) ++ listed f k xs) (sym (add-one i));
      known = tt;
    }

-- ---- one row, behind one of another operator

pub row_piece :
    {run total : List ℕ} {s₀ s t u : Sink} {n i p j q k : ℕ}
    (w : Telling held_row rows_from Freely run total s₀ n i p j s) (x : Row) (xs : List Row)
    → q ≡ p + length (held_row x) → k ≡ operator_number x.operator → Adds (turning j k) s t
    → Adds (row_bytes x) t u → Piece w x xs q k u
unfolding rows_from
row_piece {j = j} {k = k} w x xs e g a b =
    record {
      far = e;
      piece = turning j k ++ row_bytes x;
      adds = adds_then a b;
      tells = ap (λ (m : ℕ). turning j m ++ (row_bytes x ++ rows_from m xs)) (sym g)
          ∙ sym (append_assoc (turning j k) (row_bytes x) (rows_from k xs));
      known = tt;
    }

pub condition_none :
    (xs : List Row) {s : Sink} → length xs ≡ 0 → Adds (condition_bytes xs) s s
condition_none [] {s} e = adds_none s
condition_none (x ∷ xs) e = absurd (omega (arith, e))

pub condition_some :
    (xs : List Row) → (length xs ≡ 0 → ⊥)
    → 44 ∷ (name condition_word ++ (123 ∷ (rows_from 0 xs ++ (125 ∷ 125 ∷ [])))) ≡ condition_bytes xs
condition_some [] s = absurd (s refl)
condition_some (x ∷ xs) s = refl

-- ---- a policy is a list

module _ {run : List ℕ} where
  pub policy_lies : (x : Policy) → Lies run 0 (held x) → Lies run 0 (held_list held_statement x)
  unfolding held
  policy_lies x l = l

  pub policy_list : Lying held run 0 → Lying (held_list held_statement) run 0
  policy_list y = record { thing = y.thing; lies = policy_lies y.thing y.lies }
