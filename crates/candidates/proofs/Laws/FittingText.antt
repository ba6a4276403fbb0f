-- A row that holds a text, test by test: its length, the zeros behind it, the entry's kind, what is legal.
use mathlib.Core.Path.{◌≡◌, sym, ap, ◌∙◌}
use mathlib.Core.Bool.{Bool, true, false}
use mathlib.Core.List.{List}
use Prim.Native.Nat.{ℕ, ◌+◌, ◌-◌, ◌≤◌, ◌<◌}
use native.Mathlib.Omega.{arith}
use lib.ListN.{length, get_or, take, drop}
use Rattle.syntax.specs.Policy.{StringLike}
use Rattle.syntax.specs.Forms.{both}
use Rattle.decision.specs.Matching.{matches}
use Rattle.candidates.specs.Candidates.{single, under}
use Rattle.candidates.specs.Entries.{Place, comparison, before, legal_text, legal_beginning, wild_kind}
use Rattle.candidates.specs.Places.{wild_of}
use Rattle.candidates.specs.declared.kinds.Wild.TheVariants as W
use Rattle.candidates.specs.Rows.{row_numbers, is_zero, is_row, text_in}
use Rattle.candidates.proofs.Laws.Counting.{star_before, star_is}
use Rattle.candidates.proofs.Laws.Forming.{both_no, both_yes}
use Rattle.candidates.proofs.Laws.Fitting.{text_row_long, text_row_lem, single_is, under_is, single_row, under_row}
use Rattle.candidates.proofs.Laws.FittingWild.{single_none, single_matched, under_final, under_other}

-- the characters as the code hands them on
abbrev pub part : List ℕ → List ℕ
part xs = take (get_or xs 1 0 + 2 - 2) (drop 2 xs)

pub part_is : (xs : List ℕ) → part xs ≡ text_in xs
part_is xs = let e : get_or xs 1 0 + 2 - 2 ≡ get_or xs 1 0 = omega arith in ap (λ (n : ℕ). take n (drop 2 xs)) e

module _ (p : Place) (ys xs : List ℕ) (size : length xs ≡ row_numbers) where
  abbrev test : Bool
  test = is_row (wild_kind p ys) xs

  abbrev told : ℕ
  told = get_or xs 1 0

  abbrev tail : Bool
  tail = is_zero (drop (told + 2) xs)

  -- ---- a single text

  module _ (g : get_or xs 0 0 ≡ 2) where
    pub single_long : 254 < told → false ≡ test
    single_long h = text_row_long (wild_kind p ys) xs size 2 single g (single_is xs g) single_row h

    module _ (h : told ≤ 254) where
      single_row_is : test ≡ both ((wild_kind p ys).is (single (text_in xs))) tail
      single_row_is = text_row_lem (wild_kind p ys) xs size 2 single g (single_is xs g) single_row h

      pub single_tail : tail ≡ false → false ≡ test
      single_tail z =
          sym (single_row_is ∙ ap (both ((wild_kind p ys).is (single (text_in xs)))) z
          ∙ both_no ((wild_kind p ys).is (single (text_in xs))))

      module _ (z : tail ≡ true) where
        single_held : test ≡ (wild_kind p ys).is (single (text_in xs))
        single_held =
            single_row_is ∙ ap (both ((wild_kind p ys).is (single (text_in xs)))) z
            ∙ both_yes ((wild_kind p ys).is (single (text_in xs)))

        module _ (c : comparison p ≡ StringLike) (s : wild_of ys ≡ W.Without → ⊥) where
          single_tests : test ≡ both (matches ys (part xs)) (legal_text p (part xs))
          single_tests =
              single_held ∙ single_matched p ys (text_in xs) c s
              ∙ ap (λ (t : List ℕ). both (matches ys t) (legal_text p t)) (sym (part_is xs))

          pub single_no_match : matches ys (part xs) ≡ false → false ≡ test
          single_no_match e = sym (single_tests ∙ ap (λ (b : Bool). both b (legal_text p (part xs))) e)

          pub single_legal : matches ys (part xs) ≡ true → legal_text p (part xs) ≡ test
          single_legal e = sym (single_tests ∙ ap (λ (b : Bool). both b (legal_text p (part xs))) e)

      pub single_none_fits : wild_of ys ≡ W.Without → false ≡ test
      single_none_fits e =
          sym (single_row_is ∙ ap (λ (b : Bool). both b tail) (single_none p ys (text_in xs) e))

  -- ---- a beginning

  module _ (g : get_or xs 0 0 ≡ 3) where
    pub under_long : 254 < told → false ≡ test
    under_long h = text_row_long (wild_kind p ys) xs size 3 under g (under_is xs g) under_row h

    module _ (h : told ≤ 254) where
      under_row_is : test ≡ both ((wild_kind p ys).is (under (text_in xs))) tail
      under_row_is = text_row_lem (wild_kind p ys) xs size 3 under g (under_is xs g) under_row h

      pub under_tail : tail ≡ false → false ≡ test
      under_tail z =
          sym (under_row_is ∙ ap (both ((wild_kind p ys).is (under (text_in xs)))) z
          ∙ both_no ((wild_kind p ys).is (under (text_in xs))))

      module _ (z : tail ≡ true) where
        under_held : test ≡ (wild_kind p ys).is (under (text_in xs))
        under_held =
            under_row_is ∙ ap (both ((wild_kind p ys).is (under (text_in xs)))) z
            ∙ both_yes ((wild_kind p ys).is (under (text_in xs)))

        pub under_legal : {n : ℕ} → wild_of ys ≡ W.FinalStar n → legal_beginning p (take n ys) (part xs) ≡ test
        under_legal e =
            ap (λ (b : List ℕ). legal_beginning p b (part xs)) (star_before ys e)
            ∙ ap (legal_beginning p (before ys)) (part_is xs)
            ∙ sym (under_held ∙ under_final p ys (text_in xs) (star_is ys e))

      pub not_under : (wild_of ys ≡ W.FinalStar (length ys - 1) → ⊥) → false ≡ test
      not_under s =
          sym (under_row_is ∙ ap (λ (b : Bool). both b tail) (under_other p ys (text_in xs) s))
