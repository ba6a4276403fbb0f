-- A run extended: one extension behind another, a number put in front, what lies in the run afterwards.
use mathlib.Core.Path.{◌≡◌, refl, sym, ap, ◌∙◌}
use mathlib.Core.List.{List, [], ◌∷◌, ◌++◌, append_assoc}
use Prim.Native.Nat.{ℕ, ◌+◌, ◌≤◌, ◌<◌}
use native.Mathlib.Omega.{arith}
use native.Mathlib.Numerals.{add-one}
use lib.ListN.{length, get_or, take, drop, set, length-set, length-append, take-append-drop}
use lib.Seq.{take-suc, set_at, take_at, drop_at, length-take-le}
use Rattle.syntax.specs.Limits.{run_numbers}
use Rattle.parts.specs.Holding.{Extends, Kept}
use Rattle.held.specs.Lying.{Lies}

append_none : (xs : List ℕ) → xs ++ [] ≡ xs
append_none [] = refl
append_none (x ∷ xs) = ap (λ (l : List ℕ). x ∷ l) (append_none xs)

pub extends_none : (run : List ℕ) (at : ℕ) → Extends run run at [] at
extends_none run at = record { size = refl; place = omega arith; is = sym (append_none (take at run)) }

module _ {run run' : List ℕ} {at p : ℕ} {xs : List ℕ} (h : Extends run run' at xs p) (low : at ≤ length run) where
  abbrev front : List ℕ
  front = take at run

  front_length : length front ≡ at
  front_length = length-take-le at run low

  -- the whole run
  pub extends_all : run' ≡ front ++ (xs ++ drop p run')
  extends_all =
      sym (take-append-drop p run') ∙ ap (λ (l : List ℕ). l ++ drop p run') h.is
      ∙ append_assoc front xs (drop p run')

  pub extends_within : p ≤ length run'
  extends_within =
      let l = ap length extends_all ∙ length-append front (xs ++ drop p run') in
      let m = length-append xs (drop p run') in
      omega (arith, l, m, front_length, h.place)

  pub extends_drop : drop at run' ≡ xs ++ drop p run'
  extends_drop = ap (drop at) extends_all ∙ drop_at front (xs ++ drop p run') at front_length

  pub extends_kept : Kept run run' at
  extends_kept =
      record { size = h.size; is = ap (take at) extends_all ∙ take_at front (xs ++ drop p run') at front_length }

  pub extends_lies : length run ≤ run_numbers → Lies run' at xs
  extends_lies b =
      record {
        behind = drop p run';
        is = extends_drop;
        within = omega (arith, h.size, low);
        bounded = omega (arith, h.size, b);
      }

-- ---- one behind another

pub extends_then :
    {run run₁ run₂ : List ℕ} {at p q : ℕ} {xs ys : List ℕ}
    → Extends run run₁ at xs p → Extends run₁ run₂ p ys q → Extends run run₂ at (xs ++ ys) q
extends_then {run} {run₁} {run₂} {at} {p} {q} {xs} {ys} f g =
    record {
      size = g.size ∙ f.size;
      place = let l = length-append xs ys in omega (arith, l, f.place, g.place);
      is = g.is ∙ ap (λ (l : List ℕ). l ++ ys) f.is ∙ append_assoc (take at run) xs ys;
    }

pub extends_after :
    {run run₁ run₂ : List ℕ} {at p : ℕ} {xs : List ℕ}
    → Kept run run₁ at → Extends run₁ run₂ at xs p → Extends run run₂ at xs p
extends_after {run} {run₁} {run₂} {at} {p} {xs} f g =
    record { size = g.size ∙ f.size; place = g.place; is = g.is ∙ ap (λ (l : List ℕ). l ++ xs) f.is }

-- ---- a number in front

pub extends_front :
    {run run₁ : List ℕ} {at p : ℕ} {xs : List ℕ} (n : ℕ)
    → at < length run → Extends run run₁ (at + 1) xs p → Extends run (set run₁ at n) at (n ∷ xs) p
extends_front {run} {run₁} {at} {p} {xs} n low h =
    let rest = drop p run₁ in
    let one : take (at + 1) run ≡ take at run ++ (get_or run at 0 ∷ []) =
    ap (λ (k : ℕ). take k run) (add-one at) ∙ take-suc run at 0 low in
    let all : run₁ ≡ take at run ++ (get_or run at 0 ∷ (xs ++ rest)) =
    extends_all h (omega arith) ∙ ap (λ (l : List ℕ). l ++ (xs ++ rest)) one
    ∙ append_assoc (take at run) (get_or run at 0 ∷ []) (xs ++ rest) in
    let there = length-take-le at run (omega arith) in
    let after : set run₁ at n ≡ (take at run ++ (n ∷ xs)) ++ rest =
    ap (λ (l : List ℕ). set l at n) all
    ∙ set_at (take at run) (get_or run at 0) (xs ++ rest) n at there
    ∙ sym (append_assoc (take at run) (n ∷ xs) rest) in
    let size : length (take at run ++ (n ∷ xs)) ≡ p =
    length-append (take at run) (n ∷ xs) ∙ omega (arith, there, h.place) in
    record {
      size = length-set run₁ at n ∙ h.size;
      place = omega (arith, h.place);
      is = ap (take p) after ∙ take_at (take at run ++ (n ∷ xs)) rest p size;
    }
