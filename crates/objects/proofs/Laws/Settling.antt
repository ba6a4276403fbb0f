-- Parts of a run, moved: a part lies where it lies, is kept with the run before its end, and may be put elsewhere.
use mathlib.Core.Path.{◌≡◌, refl, sym, ap, ◌∙◌, subst}
use mathlib.Core.Logic.{inl, inr}
use mathlib.Core.List.{List, [], ◌∷◌, ◌++◌, append_assoc}
use Prim.Native.Nat.{ℕ, ◌+◌, ◌-◌, ◌≤◌, ◌<◌}
use native.Mathlib.Omega.{arith}
use native.Mathlib.Numerals.{add-one}
use lib.ListN.{length, take, drop, length-drop}
use lib.Seq.{take-add, take-take, drop_at, length-take-le}
use Rattle.std.specs.List.{copy_within}
use Rattle.std.proofs.lemmas.List.Edits.{length-paste, take-paste}
use Rattle.chars.specs.Base.{part}
use Rattle.text.proofs.Laws.Parts.{part_length}
use Rattle.parts.specs.Holding.{Extends, Kept}
use Rattle.parts.proofs.Laws.Extends.{extends_none, extends_then, extends_after, extends_within, extends_kept}
use Rattle.objects.specs.Spans.{from_of, to_of, behind, piece, in_turn, Span, Spanned, Movable, InPlace, Copied}
use Rattle.objects.specs.declared.settling.Lined.{Lined}

-- ---- parts and extensions

module _ (s : List ℕ) (a e : ℕ) (order : a ≤ e) where
  take_part : take e s ≡ take a s ++ part s a e
  take_part =
      let k : a + (e - a) ≡ e = omega arith in
      ap (λ (n : ℕ). take n s) (sym k) ∙ take-add a (e - a) s

  part_is : a ≤ length s → part s a e ≡ drop a (take e s)
  part_is low = sym (ap (drop a) take_part ∙ drop_at (take a s) (part s a e) a (length-take-le a s low))

  -- a part lies where it lies
  pub extends_self : e ≤ length s → Extends s s a (part s a e) e
  extends_self inside =
      record {
        size = refl;
        place = let l = part_length s a e order inside in omega arith;
        is = take_part;
      }

pub kept_less : {run run' : List ℕ} {p : ℕ} (q : ℕ) → q ≤ p → Kept run run' p → Kept run run' q
kept_less {run} {run'} {p} q h k =
    record {
      size = k.size;
      is = sym (take-take q p run' h) ∙ ap (take q) k.is ∙ take-take q p run h;
    }

pub part_kept :
    {run run' : List ℕ} {p : ℕ} (a e : ℕ) → a ≤ e → e ≤ p → p ≤ length run → Kept run run' p
    → part run' a e ≡ part run a e
part_kept {run} {run'} {p} a e order inside high k =
    part_is run' a e order (omega (arith, k.size)) ∙ ap (drop a) (kept_less e inside k).is
    ∙ sym (part_is run a e order (omega arith))

-- what a run is extended with is the part there
pub extends_part : {run run' xs : List ℕ} {at p : ℕ} → at ≤ length run → Extends run run' at xs p → part run' at p ≡ xs
extends_part {run} {run'} {xs} {at} {p} low x =
    part_is run' at p (omega (arith, x.place)) (omega (arith, x.size)) ∙ ap (drop at) x.is
    ∙ drop_at (take at run) xs at (length-take-le at run low)

pub extends_here : {run run' xs : List ℕ} {at p : ℕ} → at ≤ length run → Extends run run' at xs p
    → Extends run' run' at xs p
extends_here {run} {run'} {xs} {at} low x =
    record {
      size = refl;
      place = x.place;
      is = x.is ∙ ap (λ (l : List ℕ). l ++ xs) (sym (extends_kept x low).is);
    }

-- ---- moving

pub moved_extends : {run : List ℕ} {from to at : ℕ} → Movable run from to at
    → Extends run (copy_within run from to at) at (part run from to) (at + (to - from))
moved_extends {run} {from} {to} {at} m =
    let left : to - from ≤ length (drop from run) = omega (arith, m.order, m.inside, length-drop from run) in
    record {
      size = length-paste run at (drop from run) (to - from) m.room left;
      place = let l = part_length run from to m.order m.inside in omega arith;
      is = take-paste run at (drop from run) (to - from) (omega (arith, m.room)) left;
    }

-- ---- parts in place

-- n parts lie in turn from a place on, up to p
pub record Lying (run m : List ℕ) (at n p : ℕ) : Type 0 where
  pub high : p ≤ behind m
  pub lie : Extends run run at (in_turn run m n) p

in_turn_next : (run m : List ℕ) (n : ℕ) → in_turn run m n ++ piece run m (n + 1) ≡ in_turn run m (n + 1)
unfolding in_turn
in_turn_next run m n =
    ap (λ (k : ℕ). in_turn run m n ++ piece run m k) (add-one n) ∙ ap (in_turn run m) (sym (add-one n))

module _ {run m : List ℕ} {last at : ℕ} (w : Spanned run m last at) where
  pub lying_start : Lying run m at 0 at
  unfolding in_turn
  lying_start = record { high = w.low; lie = extends_none run at }

  pub lying_more : {n p : ℕ} → Lying run m at n p → n < last → from_of m (n + 1) ≡ p
      → Lying run m at (n + 1) (to_of m (n + 1))
  lying_more {n} {p} l h e =
      let k = w.each (n + 1) (omega arith) (omega arith) in
      let inside : to_of m (n + 1) ≤ length run = omega (arith, k.inside, w.high) in
      let x = extends_self run (from_of m (n + 1)) (to_of m (n + 1)) k.order inside in
      let y = subst (λ (a : ℕ). Extends run run a (piece run m (n + 1)) (to_of m (n + 1))) e x in
      record {
        high = k.inside;
        lie = subst (λ (xs : List ℕ). Extends run run at xs (to_of m (n + 1))) (in_turn_next run m n)
            (extends_then l.lie y);
      }

  pub lying_told : {n p : ℕ} → n ≤ last → Lying run m at n p → InPlace run m last at (record { count = n; past = p })
  lying_told h l = record { few = h; high = l.high; lie = l.lie }

-- ---- parts copied

-- the parts from `first` up to n were put behind all parts, up to p
pub record Copying (run₀ run m : List ℕ) (first n p : ℕ) : Type 0 where
  pub rest : List ℕ
  pub extends : Extends run₀ run (behind m) rest p
  pub joins : in_turn run₀ m n ≡ in_turn run₀ m first ++ rest

pub append_nothing : (xs : List ℕ) → xs ≡ xs ++ []
append_nothing [] = refl
append_nothing (x ∷ xs) = ap (λ (l : List ℕ). x ∷ l) (append_nothing xs)

module _ {run₀ m : List ℕ} {last first : ℕ} (w : Spanned run₀ m last 0) where
  pub copying_start : Copying run₀ run₀ m first first (behind m)
  copying_start =
      record { rest = []; extends = extends_none run₀ (behind m); joins = append_nothing (in_turn run₀ m first) }

  module _ {run : List ℕ} {n p : ℕ} (g : Copying run₀ run m first n p) where
    pub copying_high : p ≤ length run
    copying_high = extends_within g.extends w.high

    pub copying_low : behind m ≤ p
    copying_low = omega (arith, g.extends.place)

    pub copying_size : length run ≡ length run₀
    copying_size = g.extends.size

    module _ (h : n < last) where
      span : Span m (n + 1)
      span = w.each (n + 1) (omega arith) (omega arith)

      pub copying_order : from_of m (n + 1) ≤ to_of m (n + 1)
      copying_order = span.order

      pub copying_movable : to_of m (n + 1) - from_of m (n + 1) ≤ length run - p
          → Movable run (from_of m (n + 1)) (to_of m (n + 1)) p
      copying_movable room =
          let l = copying_low in
          let i = span.inside in
          record {
            order = span.order;
            inside = omega (arith, w.high, copying_size);
            room = omega (arith, copying_high, span.order);
            apart = inr (omega arith);
          }

      pub copying_more : {run₁ : List ℕ} {q : ℕ}
          → Extends run run₁ p (part run (from_of m (n + 1)) (to_of m (n + 1))) q → Copying run₀ run₁ m first (n + 1) q
      copying_more {run₁} {q} x =
          let k = extends_kept g.extends w.high in
          let e = part_kept (from_of m (n + 1)) (to_of m (n + 1)) span.order span.inside w.high k in
          let y = subst (λ (xs : List ℕ). Extends run run₁ p xs q) e x in
          record {
            rest = g.rest ++ piece run₀ m (n + 1);
            extends = extends_then g.extends y;
            joins = sym (in_turn_next run₀ m n) ∙ ap (λ (l : List ℕ). l ++ piece run₀ m (n + 1)) g.joins
                ∙ append_assoc (in_turn run₀ m first) g.rest (piece run₀ m (n + 1));
          }

    pub copying_end : n ≡ last → Copied run₀ run m first last p
    copying_end e = record { rest = g.rest; extends = g.extends; joins = ap (in_turn run₀ m) (sym e) ∙ g.joins }

-- ---- parts settled

module _ {run m : List ℕ} {last at : ℕ} {f : Lined} (w : Spanned run m last at) (l : InPlace run m last at f) where
  pub settled_already : last ≤ f.count → Extends run run at (in_turn run m last) f.past
  settled_already h =
      let e : f.count ≡ last = omega (arith, l.few) in
      subst (λ (n : ℕ). Extends run run at (in_turn run m n) f.past) e l.lie

  module _ {run₁ : List ℕ} {q : ℕ} (c : Copied run run₁ m f.count last q) where
    pub settled_movable : Movable run₁ (behind m) q f.past
    settled_movable =
        let h = l.high in
        let i = extends_within c.extends w.high in
        record {
          order = omega (arith, c.extends.place);
          inside = i;
          room = omega (arith, c.extends.place);
          apart = inl h;
        }

    pub settled_put : {run₂ : List ℕ} {r : ℕ} → Extends run₁ run₂ f.past (part run₁ (behind m) q) r
        → Extends run run₂ at (in_turn run m last) r
    settled_put {run₂} {r} x =
        let k = kept_less f.past l.high (extends_kept c.extends w.high) in
        let e = extends_part w.high c.extends in
        let y = extends_after k (subst (λ (xs : List ℕ). Extends run₁ run₂ f.past xs r) e x) in
        subst (λ (xs : List ℕ). Extends run run₂ at xs r) (sym c.joins) (extends_then l.lie y)
