-- Two contents of an entry that is matched by its wildcards, joined, by the number of its kind.
use mathlib.Core.Path.{◌≡◌, refl, sym, ap, ◌∙◌}
use mathlib.Core.Bool.{Bool, true, false}
use mathlib.Core.List.{List, [], ◌∷◌}
use Prim.Native.Nat.{ℕ, ◌-◌}
use lib.Dec.{eqb}
use lib.ListN.{length, get_or, take}
use borrow.Author.Tests.{eq-eqb, eqb-true}
use Rattle.chars.specs.Base.{pick}
use Rattle.syntax.specs.Forms.{both, same}
use Rattle.syntax.proofs.Laws.Same.{same_sound, same_complete}
use Rattle.parts.proofs.Laws.Slots.{both_true, true_false}
use Rattle.candidates.specs.Candidates.{Candidate, itself, single, under, up_to, Content, empty, holds, joined}
use Rattle.candidates.specs.Beginnings.{shared, longest}
use Rattle.candidates.specs.Kinds.{never, text_of, one_text}
use Rattle.candidates.specs.Entries.{Place, before, legal_beginning, wild_kind}
use Rattle.candidates.specs.Places.{wild_of}
use Rattle.candidates.specs.declared.kinds.Wild.TheVariants as W
use Rattle.candidates.specs.Rows.{padded, row}
use Rattle.candidates.specs.Joining.{Textual, no_text, whole_text, single_text, begun_text, content_text}
use Rattle.candidates.proofs.Laws.Counting.{star_before, star_is}
use Rattle.candidates.proofs.Laws.Encoding.{Sized, no_row, whole_row, text_row_lem, begun_row, row_injective}
use Rattle.candidates.proofs.Laws.FittingWild.{by_tests, number, no_wildcard, final_star, kind_is, number_is}
use Rattle.candidates.proofs.Laws.ChargingLeast.{longest_never, mark_row}
use Rattle.candidates.proofs.Laws.Joining.{mark_of, Standing, joined_nothing, one_row}

sized : {c : Content} → Textual c → Sized c
sized no_text = no_row
sized whole_text = whole_row
sized (single_text h) = text_row_lem h
sized (begun_text h) = begun_row h

-- ---- nothing in one of them

marked : {c : Content} → Textual c → mark_of c ≡ 0 → c ≡ empty
marked no_text e = refl
marked whole_text e = cc
marked (single_text h) e = cc
marked (begun_text h) e = cc

module _ (p : Place) (ys : List ℕ) where
  module _ {xs : List ℕ} (c d : Content) where
    pub nothing_second : Textual d → {zs : List ℕ} → Standing d zs → get_or zs 0 0 ≡ 0 → xs ≡ row c
        → xs ≡ row (joined (wild_kind p ys) c d)
    nothing_second t s e f =
        let n : d ≡ empty = marked t (sym s.mark ∙ e) in
        f ∙ ap row (sym (ap (joined (wild_kind p ys) c) n ∙ joined_nothing (wild_kind p ys) c))

    pub nothing_first : Textual c → {zs : List ℕ} → Standing c zs → get_or zs 0 0 ≡ 0 → xs ≡ row d
        → xs ≡ row (joined (wild_kind p ys) c d)
    nothing_first t s e f =
        let n : c ≡ empty = marked t (sym s.mark ∙ e) in
        f ∙ ap row (sym (ap (λ (b : Content). joined (wild_kind p ys) b d) n))

-- ---- one single text in both

-- a content that is not empty holds a candidate
pub record Held (c : Content) : Type 0 where
  pub candidate : Candidate
  pub is : c ≡ holds candidate

pub held : {c : Content} {xs : List ℕ} → Textual c → Standing c xs → (get_or xs 0 0 ≡ 0 → ⊥) → Held c
held no_text s n = absurd (n s.mark)
held whole_text s n = record { candidate = itself; is = refl }
held (single_text {t} h) s n = record { candidate = single t; is = refl }
held (begun_text {q} h) s n = record { candidate = under q; is = refl }

record Single (c : Content) : Type 0 where
  text : List ℕ
  is : c ≡ holds (single text)

two : {c : Content} → Textual c → mark_of c ≡ 2 → Single c
two no_text e = cc
two whole_text e = cc
two (single_text {t} h) e = record { text = t; is = refl }
two (begun_text h) e = cc

-- the same text twice
one_self : (t : List ℕ) → one_text (single t) (single t) ≡ true
one_self t = same_complete refl

record Twice (a b : Candidate) : Type 0 where
  text : List ℕ
  first : a ≡ single text
  second : b ≡ single text

twice : (a b : Candidate) → one_text a b ≡ true → Twice a b
twice itself b e = absurd (true_false e refl)
twice (single s) itself e = absurd (true_false e refl)
twice (single s) (single t) e =
    record { text = s; first = refl; second = ap single (sym (same_sound s t e)) }
twice (single s) (under q) e = absurd (true_false e refl)
twice (single s) (up_to n) e = absurd (true_false e refl)
twice (under q) b e = absurd (true_false e refl)
twice (up_to n) b e = absurd (true_false e refl)

module _ (p : Place) (ys : List ℕ) where
  abbrev join : Candidate → Candidate → Candidate
  join a b = (wild_kind p ys).join a b

  by_join : (a b : Candidate) → join a b ≡ (by_tests p ys (no_wildcard p ys) (final_star p ys)).join a b
  by_join a b = ap (λ k. k.join a b) (kind_is p ys)

  join_self : (t : List ℕ) → join (single t) (single t) ≡ single t
  join_self t = by_join (single t) (single t) ∙ by (no_wildcard p ys) (final_star p ys)
    where
      by : (a b : Bool) → (by_tests p ys a b).join (single t) (single t) ≡ single t
      by true b = ap (λ (x : Bool). pick x (single t) (longest never (shared t t))) (one_self t)
      by false true =
          ap (λ (x : Bool). pick x (single t) (longest (legal_beginning p (before ys)) (shared t t))) (one_self t)
      by false false = ap (λ (x : Bool). pick x (single t) (longest never (shared t t))) (one_self t)

  pub join_other : (a b : Candidate) → one_text a b ≡ false → (wild_of ys ≡ W.FinalStar (length ys - 1) → ⊥) → join a b ≡ itself
  join_other a b e s = by_join a b ∙ by (no_wildcard p ys) (final_star p ys) (λ z. s (number_is p ys ∙ z))
    where
      rest : List ℕ
      rest = shared (text_of a) (text_of b)

      none : pick (one_text a b) a (longest never rest) ≡ itself
      none = ap (λ (x : Bool). pick x a (longest never rest)) e ∙ longest_never (length rest) rest

      by : (x y : Bool) → (number p ys x y ≡ W.FinalStar (length ys - 1) → ⊥) → (by_tests p ys x y).join a b ≡ itself
      by true y s = none
      by false true s = absurd (s refl)
      by false false s = none

  pub join_final :
      (a b : Candidate) → one_text a b ≡ false → wild_of ys ≡ W.FinalStar (length ys - 1)
      → join a b ≡ longest (legal_beginning p (before ys)) (shared (text_of a) (text_of b))
  join_final a b e s = by_join a b ∙ by (no_wildcard p ys) (final_star p ys) (sym (number_is p ys) ∙ s)
    where
      by : (x y : Bool) → number p ys x y ≡ W.FinalStar (length ys - 1)
          → (by_tests p ys x y).join a b ≡ longest (legal_beginning p (before ys)) (shared (text_of a) (text_of b))
      by true y s = cc
      by false true s =
          ap (λ (x : Bool). pick x a (longest (legal_beginning p (before ys)) (shared (text_of a) (text_of b)))) e
      by false false s = cc

  module _ {xs zs : List ℕ} (c d : Content) (tc : Textual c) (td : Textual d) (f : xs ≡ row c) (g : zs ≡ row d) where
    pub one_joined : Standing c xs → one_row xs zs ≡ true → xs ≡ row (joined (wild_kind p ys) c d)
    one_joined s e =
        let h = both_true (eqb (get_or xs 0 0) 2) (same xs zs) e in
        let i = row_injective c d (sized tc) (sized td) (sym f ∙ same_sound xs zs h.1 ∙ g) in
        let o = two tc (sym s.mark ∙ eqb-true (get_or xs 0 0) 2 h.0) in
        let t = o.text in
        f
        ∙ ap row
        (sym (ap (λ (b : Content). joined (wild_kind p ys) c b) (sym i)
        ∙ ap (λ (b : Content). joined (wild_kind p ys) b b) o.is ∙ ap holds (join_self t) ∙ sym o.is))

    not_one : (a b : Candidate) → c ≡ holds a → d ≡ holds b → Standing c xs → one_row xs zs ≡ false → one_text a b ≡ false
    not_one a b m n s e = by (one_text a b) refl
      where
        by : (x : Bool) → one_text a b ≡ x → x ≡ false
        by false q = refl
        by true q =
            let w = twice a b q in
            let rows : xs ≡ zs = f ∙ ap row (m ∙ ap holds (w.first ∙ sym w.second) ∙ sym n) ∙ sym g in
            let two_is : get_or xs 0 0 ≡ 2 = s.mark ∙ ap mark_of (m ∙ ap holds w.first) in
            let yes_is : one_row xs zs ≡ true =
            ap (λ (x : Bool). both x (same xs zs)) (eq-eqb (get_or xs 0 0) 2 two_is) ∙ same_complete rows in
            sym yes_is ∙ e

    module _ (s : Standing c xs) (r : Standing d zs) (n : get_or xs 0 0 ≡ 0 → ⊥) (m : get_or zs 0 0 ≡ 0 → ⊥)
        (e : one_row xs zs ≡ false) where
      abbrev a : Candidate
      a = (held tc s n).candidate

      abbrev b : Candidate
      b = (held td r m).candidate

      joined_is : joined (wild_kind p ys) c d ≡ holds (join a b)
      joined_is =
          ap (λ (x : Content). joined (wild_kind p ys) x d) (held tc s n).is
          ∙ ap (joined (wild_kind p ys) (holds a)) (held td r m).is

      one_not : one_text a b ≡ false
      one_not = not_one a b (held tc s n).is (held td r m).is s e

      pub joined_other :
          {out : List ℕ} → (wild_of ys ≡ W.FinalStar (length ys - 1) → ⊥) → out ≡ padded (1 ∷ []) → out ≡ row (joined (wild_kind p ys) c d)
      joined_other w g =
          g ∙ sym mark_row ∙ ap row (sym (joined_is ∙ ap holds (join_other a b one_not w)))

      pub joined_final :
          {out : List ℕ} {n : ℕ} → wild_of ys ≡ W.FinalStar n
          → out ≡ row (holds (longest (legal_beginning p (take n ys)) (shared (content_text c) (content_text d))))
          → out ≡ row (joined (wild_kind p ys) c d)
      joined_final w g =
          let both_texts = ap (λ (x : Content). shared (content_text x) (content_text d)) (held tc s n).is
          ∙ ap (λ (x : Content). shared (text_of a) (content_text x)) (held td r m).is in
          g
          ∙ ap (λ (l : List ℕ). row (holds (longest (legal_beginning p l) (shared (content_text c) (content_text d)))))
          (star_before ys w)
          ∙ ap (λ (l : List ℕ). row (holds (longest (legal_beginning p (before ys)) l))) both_texts
          ∙ ap row (sym (joined_is ∙ ap holds (join_final a b one_not (star_is ys w))))
