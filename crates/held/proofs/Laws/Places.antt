-- What lies at a place of a run: texts, what begins with a label, and numbers by their halves.
use mathlib.Core.Path.{◌≡◌, sym, ap, ◌∙◌, subst}
use mathlib.Core.Bool.{Bool}
use mathlib.Core.List.{List}
use Prim.Native.Nat.{ℕ, ◌+◌, ◌-◌, ◌*◌, ◌/◌, ◌%◌, ◌≤◌, ◌<◌}
use native.Mathlib.Nat.{div-add-mod', mod-lt}
use native.Mathlib.Omega.{arith}
use lib.ListN.{length, get_or}
use borrow.Rule.Slice.PartMut.{mid_of}
use Rattle.syntax.specs.Limits.{run_numbers}
use Rattle.held.specs.Held.{held_text, held_number, mark}
use Rattle.held.specs.Lying.{Lies}
use Rattle.held.specs.Places.{Labelled, held_labelled}
use Rattle.held.proofs.Laws.Runs.{lies_inside, lies_first, lies_next, lies_end, lies_part}
use Rattle.held.proofs.Laws.Runs.{lies_front, Named, named}

-- ---- texts

-- the numbers behind the length at a place, as many as it says
abbrev pub text_from : List ℕ → ℕ → List ℕ
text_from run p = mid_of (p + 1) (p + 1 + get_or run p 0 - (p + 1)) run

pub record Texted (run : List ℕ) (p : ℕ) (cs : List ℕ) : Type 0 where
  pub inside : p < length run
  pub ends : p + 1 + get_or run p 0 ≤ length run
  pub bounded : length run ≤ run_numbers
  pub is : text_from run p ≡ cs

pub texted : {run : List ℕ} {p : ℕ} (cs : List ℕ) → Lies run p (held_text cs) → Texted run p cs
texted {run} {p} cs l =
    let e : p + 1 + get_or run p 0 ≡ p + 1 + length cs = ap (λ (k : ℕ). p + 1 + k) (lies_first l) in
    record {
      inside = lies_inside l;
      ends = omega (arith, e, lies_end l);
      bounded = l.bounded;
      is = lies_part (lies_next l) e;
    }

pub texted_both :
    (f : List ℕ → List ℕ → Bool) {run at : List ℕ} {p q : ℕ} {cs ds : List ℕ}
    → Texted run p cs → Texted at q ds → f (text_from run p) (text_from at q) ≡ f cs ds
texted_both f {at = at} {q = q} {cs = cs} x y =
    ap (λ (l : List ℕ). f l (text_from at q)) x.is ∙ ap (f cs) y.is

-- ---- labels

pub labelled : {run : List ℕ} {p : ℕ} (x : Labelled) → Lies run p (held_labelled x) → Named run p x.label x.more
labelled x l = named x.label x.more l

pub labelled_past :
    {run : List ℕ} {p : ℕ} (x : Labelled) → Lies run p (held_labelled x)
    → p + 2 + get_or run (p + 1) 0 ≡ p + 2 + length x.label
labelled_past {p = p} x l = ap (λ (k : ℕ). p + 2 + k) (labelled x l).count

module _ {run : List ℕ} {p : ℕ} (x : Labelled) (l : Lies run p (held_labelled x)) where
  pub label_lies : Lies run (p + 1) (held_text x.label)
  label_lies = lies_front (held_text x.label) x.more (lies_next l)

  pub more_lies : (q : ℕ) → q ≡ p + 2 + length x.label → Lies run q x.more
  more_lies q e =
      subst (λ (z : ℕ). Lies run z x.more) (labelled_past x l ∙ sym e) (labelled x l).rest

-- ---- numbers by their halves

pub halves_inside : {run : List ℕ} {p : ℕ} (n : ℕ) → Lies run p (held_number n) → p + 1 < length run
halves_inside n l = lies_inside (lies_next l)

pub lower_half : {run : List ℕ} {p : ℕ} (n : ℕ) → Lies run p (held_number n) → get_or run (p + 1) 0 ≡ n % 4294967296
lower_half n l = lies_first (lies_next l)

abbrev pub half : ℕ
half = 4294967296

-- a number is its halves, the lower one below 2 ^ 32
pub parted : (n : ℕ) → (n / half * 4294967296 + n % half ≡ n) × (n % half < 4294967296)
parted n = (div-add-mod' n half, mod-lt n {m = half} (omega arith))
