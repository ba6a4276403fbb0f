-- Wildcards counted along an entry, and the entry's kind by them.
use mathlib.Core.Path.{◌≡◌, refl, sym, ap, ◌∙◌}
use mathlib.Core.Bool.{Bool, true, false, cond}
use mathlib.Core.List.{List, [], ◌∷◌}
use mathlib.Core.Logic.{◌⊎◌, inl, inr}
use Prim.Native.Nat.{ℕ, suc, ◌-◌, ◌<◌}
use native.Mathlib.Omega.{arith}
use lib.Dec.{eqb}
use lib.ListN.{length, take}
use lib.Seq.{length-take-le}
use borrow.Author.Tests.{eq-eqb, ne_eqb}
use Rattle.std.specs.List.{filter}
use Rattle.chars.specs.Base.{pick}
use Rattle.syntax.specs.Policy.{star, any}
use Rattle.syntax.specs.Forms.{both, either}
use Rattle.candidates.specs.Entries.{wildcards, last_of, before}
use Rattle.candidates.specs.Places.{wild_of}
use Rattle.candidates.specs.declared.kinds.Wild.{Wild}
use Rattle.candidates.specs.declared.kinds.Wild.TheVariants as W

-- what a filter keeps of a symbol and those behind it
kept : (b : Bool) (y : ℕ) (ys : List ℕ) → length (cond b (y ∷ ys) ys) ≡ pick b (suc (length ys)) (length ys)
kept true y ys = refl
kept false y ys = refl

pub filtered : (ys : List ℕ) → length (filter (λ y. either (eqb y star) (eqb y any)) ys) ≡ wildcards ys
unfolding wildcards
filtered [] = refl
filtered (y ∷ ys) =
    let b = either (eqb y star) (eqb y any) in
    kept b y (filter (λ x. either (eqb x star) (eqb x any)) ys)
    ∙ ap (λ (n : ℕ). pick b (suc n) n) (filtered ys)

-- ---- the kind

pub some_wildcard : (ys : List ℕ) {n : ℕ} → n ≡ wildcards ys → (n ≡ 0 → ⊥) → 0 < length ys
unfolding wildcards
some_wildcard [] e s = absurd (s e)
some_wildcard (y ∷ ys) e s = omega arith

module _ (ys : List ℕ) {n : ℕ} (e : n ≡ wildcards ys) where
  abbrev kinds : Bool → Bool → Wild
  kinds a b = pick a W.Without (pick b (W.FinalStar (length ys - 1)) W.Others)

  pub wild_none : n ≡ 0 → W.Without ≡ wild_of ys
  unfolding wild_of
  wild_none z =
      sym (ap (λ (b : Bool). kinds b (both (eqb (wildcards ys) 1) (eqb (last_of ys) star)))
      (eq-eqb (wildcards ys) 0 (sym e ∙ z)))

  module _ (s : n ≡ 0 → ⊥) where
    some : wild_of ys ≡ kinds false (both (eqb (wildcards ys) 1) (eqb (last_of ys) star))
    unfolding wild_of
    some =
        ap (λ (b : Bool). kinds b (both (eqb (wildcards ys) 1) (eqb (last_of ys) star)))
        (ne_eqb (wildcards ys) 0 (λ z. s (e ∙ z)))

    pub wild_many : (n ≡ 1 → ⊥) → W.Others ≡ wild_of ys
    wild_many t =
        sym (some ∙ ap (λ (b : Bool). kinds false (both b (eqb (last_of ys) star)))
        (ne_eqb (wildcards ys) 1 (λ z. t (e ∙ z))))

    module _ (t : n ≡ 1) where
      single : wild_of ys ≡ kinds false (eqb (last_of ys) star)
      single =
          some ∙ ap (λ (b : Bool). kinds false (both b (eqb (last_of ys) star))) (eq-eqb (wildcards ys) 1 (sym e ∙ t))

      pub wild_final : last_of ys ≡ star → W.FinalStar (length ys - 1) ≡ wild_of ys
      wild_final l = sym (single ∙ ap (kinds false) (eq-eqb (last_of ys) star l))

      pub wild_inside : (last_of ys ≡ star → ⊥) → W.Others ≡ wild_of ys
      wild_inside l = sym (single ∙ ap (kinds false) (ne_eqb (last_of ys) star l))

-- a final star is the last symbol
pub star_last : (ys : List ℕ) {n : ℕ} → wild_of ys ≡ W.FinalStar n → n ≡ length ys - 1
unfolding wild_of
star_last ys {n} = by (eqb (wildcards ys) 0) (both (eqb (wildcards ys) 1) (eqb (last_of ys) star))
  where
    by : (a b : Bool) → pick a W.Without (pick b (W.FinalStar (length ys - 1)) W.Others) ≡ W.FinalStar n → n ≡ length ys - 1
    by true b e = cc
    by false true e = cc
    by false false e = cc

pub star_part : (ys : List ℕ) {n : ℕ} → wild_of ys ≡ W.FinalStar n → n ≡ length (take n ys)
star_part ys {n} e = sym (length-take-le n ys (omega (arith, star_last ys e)))

pub star_before : (ys : List ℕ) {n : ℕ} → wild_of ys ≡ W.FinalStar n → take n ys ≡ before ys
star_before ys e = ap (λ (k : ℕ). take k ys) (star_last ys e)

pub star_is : (ys : List ℕ) {n : ℕ} → wild_of ys ≡ W.FinalStar n → wild_of ys ≡ W.FinalStar (length ys - 1)
star_is ys e = e ∙ ap W.FinalStar (star_last ys e)

-- no final star
pub not_final : {w : Wild} {n : ℕ} → (w ≡ W.Without) ⊎ (w ≡ W.Others) → w ≡ W.FinalStar n → ⊥
not_final (inl e) f = cc
not_final (inr e) f = cc

pub not_without : {w : Wild} → ((n : ℕ) × (w ≡ W.FinalStar n)) ⊎ (w ≡ W.Others) → w ≡ W.Without → ⊥
not_without (inl e) f = let g = e.1 in cc
not_without (inr e) f = cc
