-- Bytes and numbers copied one by one to the beginning of what is lent.
use mathlib.Core.Path.{◌≡◌, refl, sym, ap, ◌∙◌}
use mathlib.Core.List.{List}
use Prim.Native.Nat.{ℕ, ◌+◌, ◌≤◌, ◌<◌}
use native.Mathlib.Numerals.{add-one}
use native.Mathlib.Omega.{arith}
use lib.ListN.{length, get_or, set, take}
use lib.Seq.{take-suc, length-take-le}
use Rattle.chars.specs.Putting.{lay}
use Rattle.chars.proofs.Laws.Putting.{lay_length, lay_snoc}

pub record Copied (bs : List ℕ) (n : ℕ) (out₀ out : List ℕ) (i : ℕ) : Type 0 where
  pub enough : n ≤ length bs
  pub few : i ≤ n
  pub is : out ≡ lay (take i bs) out₀

pub copied_start : (bs : List ℕ) (n : ℕ) (out : List ℕ) → n ≤ length bs → Copied bs n out out 0
unfolding lay
copied_start bs n out h = record { enough = h; few = omega arith; is = refl }

module _ {bs out₀ out : List ℕ} {n i : ℕ} (w : Copied bs n out₀ out i) where
  pub copied_length : length out ≡ length out₀
  copied_length = ap length w.is ∙ lay_length (take i bs) out₀

  pub copied_next : i < n → Copied bs n out₀ (set out i (get_or bs i 0)) (i + 1)
  copied_next h =
      let inside : i < length bs = omega (arith, w.enough) in
      let b = get_or bs i 0 in
      record {
        enough = w.enough;
        few = omega arith;
        is = ap (λ (l : List ℕ). set l i b) w.is
            ∙ ap (λ (k : ℕ). set (lay (take i bs) out₀) k b) (sym (length-take-le i bs (omega arith)))
            ∙ sym (lay_snoc (take i bs) out₀ b)
            ∙ ap (λ (l : List ℕ). lay l out₀) (sym (take-suc bs i 0 inside))
            ∙ ap (λ (k : ℕ). lay (take k bs) out₀) (sym (add-one i));
      }

  pub copied_end : n ≤ i → out ≡ lay (take n bs) out₀
  copied_end h =
      let e : i ≡ n = omega (arith, w.few) in
      w.is ∙ ap (λ (k : ℕ). lay (take k bs) out₀) e
