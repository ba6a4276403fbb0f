-- A walk over characters, each of which adds its piece behind those before it.
--   Each f xs i ..    the first i of xs are added by their pieces;  each_start, each_next, each_end
--   each_plain        plain characters together, whatever f is: piece_plain
--   pieces_each       what the pieces of all come to
use mathlib.Core.Path.{◌≡◌, refl, sym, ap, ◌∙◌, subst}
use mathlib.Core.Bool.{Bool}
use mathlib.Core.List.{List, [], ◌∷◌, ◌++◌, map}
use Prim.Native.Nat.{ℕ, ◌+◌, ◌-◌, ◌≤◌, ◌<◌}
use native.Mathlib.Omega.{arith}
use native.Mathlib.Numerals.{add-one}
use lib.ListN.{length, get_or, take, drop, length-drop}
use lib.Seq.{take_all, take-suc, take-add}
use borrow.Author.Tests.{ne_eqb}
use Rattle.chars.specs.Written.{written, written_text}
use Rattle.chars.proofs.Laws.Written.Runs.{text_append}
use Rattle.held.specs.Held.{held_each}
use Rattle.parts.proofs.Laws.Sofar.{held_append, held_snoc}
use Rattle.syntax.specs.Policy.{star, any}
use Rattle.writing.specs.WrittenForm.{bare, spelling, spelled}
use Rattle.writing.specs.Valid.{none, more}
use Rattle.writing.specs.Showing.{Adds}
use Rattle.writing.specs.Plain.{Plain, AllPlain, AddsPlain}
use Rattle.writing.specs.Spelling.{piece, pieces}
use Rattle.writing.specs.declared.sink.Sink.{Sink}
use Rattle.writing.specs.declared.spelling.Form.{Form}
use Rattle.writing.specs.declared.spelling.Form.TheVariants.{Text, Action, Entry}
use Rattle.writing.proofs.Laws.Showing.{adds_none, adds_then, adds_as}
use Rattle.writing.proofs.Laws.Pieces.{spelling_bare}

module _ (f : ℕ → List ℕ) where
  each_snoc : (xs : List ℕ) (i : ℕ) → i < length xs
      → held_each f (take i xs) ++ f (get_or xs i 0) ≡ held_each f (take (i + 1) xs)
  each_snoc xs i h =
      held_snoc f (take i xs) (get_or xs i 0) ∙ ap (held_each f) (sym (take-suc xs i 0 h))
      ∙ ap (λ (n : ℕ). held_each f (take n xs)) (sym (add-one i))

  each_itself : {ys : List ℕ} → ((y : ℕ) → Plain y → f y ≡ y ∷ []) → AllPlain ys → held_each f ys ≡ ys
  unfolding held_each
  each_itself g none = refl
  each_itself g (more {x = y} {xs = ys} p ps) =
      ap (λ (l : List ℕ). l ++ held_each f ys) (g y p) ∙ ap (λ (l : List ℕ). y ∷ l) (each_itself g ps)

  each_run :
      ((y : ℕ) → Plain y → f y ≡ y ∷ []) → (xs : List ℕ) (i n : ℕ) → AllPlain (take n (drop i xs))
      → held_each f (take i xs) ++ take n (drop i xs) ≡ held_each f (take (i + n) xs)
  each_run g xs i n p =
      ap (λ (l : List ℕ). held_each f (take i xs) ++ l) (sym (each_itself g p))
      ∙ sym (held_append f (take i xs) (take n (drop i xs))) ∙ ap (held_each f) (sym (take-add i n xs))

  pub record Each (xs : List ℕ) (i : ℕ) (s t : Sink) : Type 0 where
    pub inside : i ≤ length xs
    pub adds : Adds (held_each f (take i xs)) s t

  pub each_start : (xs : List ℕ) (s : Sink) → Each xs 0 s s
  unfolding held_each
  each_start xs s = record { inside = omega arith; adds = adds_none s }

  module _ {xs : List ℕ} {i : ℕ} {s t : Sink} (w : Each xs i s t) where
    pub each_next : {u : Sink} → i < length xs → Adds (f (get_or xs i 0)) t u → Each xs (i + 1) s u
    each_next h a = record { inside = omega arith; adds = adds_as (each_snoc xs i h) (adds_then w.adds a) }

    -- characters whose pieces are themselves
    pub each_plain :
        {u : Sink} {m n : ℕ} → ((y : ℕ) → Plain y → f y ≡ y ∷ []) → m ≡ length xs - i
        → AddsPlain (take m (drop i xs)) n t u → Each xs (i + n) s u
    each_plain {u} {m} {n} g e p =
        let all : take m (drop i xs) ≡ drop i xs = take_all m (drop i xs) (omega (arith, e, length-drop i xs)) in
        let q : AddsPlain (drop i xs) n t u = subst (λ (l : List ℕ). AddsPlain l n t u) all p in
        record {
          inside = omega (arith, w.inside, q.inside, length-drop i xs);
          adds = adds_as (each_run g xs i n q.plain) (adds_then w.adds q.adds);
        }

    pub each_end : {ws : List ℕ} → length xs ≤ i → held_each f xs ≡ ws → Adds ws s t
    each_end h e = adds_as (ap (held_each f) (take_all i xs h) ∙ e) w.adds

-- ---- the pieces of a plain character are itself

bare_plain : (y : ℕ) → Plain y → written (bare y) ≡ y ∷ []
unfolding bare
bare_plain y p =
    let s = ne_eqb y star (λ e. omega (arith, e, p.small)) in
    let a = ne_eqb y any (λ e. omega (arith, e, p.small)) in
    rw (s, a) p.itself

pub piece_plain : (f : Form) (y : ℕ) → Plain y → piece f y ≡ y ∷ []
piece_plain Text y p = p.itself
piece_plain Action y p = bare_plain y p
piece_plain (Entry w) y p = sym (spelling_bare w y (p.bare w)) ∙ bare_plain y p

-- ---- what the pieces of all come to

text_each : (cs : List ℕ) → held_each written cs ≡ written_text cs
unfolding held_each written_text
text_each [] = refl
text_each (c ∷ cs) = ap (λ (l : List ℕ). written c ++ l) (text_each cs)

spelled_each : (w : Bool) (ys : List ℕ) → held_each (piece (Entry w)) ys ≡ written_text (spelled w ys)
unfolding held_each spelled written_text
spelled_each w [] = refl
spelled_each w (y ∷ ys) =
    ap (λ (l : List ℕ). written_text (spelling w y) ++ l) (spelled_each w ys)
    ∙ sym (text_append (spelling w y) (spelled w ys))

bare_each : (ys : List ℕ) → held_each (piece Action) ys ≡ written_text (map bare ys)
unfolding held_each written_text
bare_each [] = refl
bare_each (y ∷ ys) = ap (λ (l : List ℕ). written (bare y) ++ l) (bare_each ys)

pub pieces_each : (f : Form) (ys : List ℕ) → held_each (piece f) ys ≡ pieces f ys
pieces_each Text ys = text_each ys
pieces_each Action ys = bare_each ys
pieces_each (Entry w) ys = spelled_each w ys
