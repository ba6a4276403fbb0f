-- What is legal in a list, told by a place's number: a single text, and a beginning with its star.
use mathlib.Core.Path.{◌≡◌, refl, sym, ap, ◌∙◌}
use mathlib.Core.Bool.{Bool, true, false}
use mathlib.Core.List.{List, [], ◌∷◌, ◌++◌, map}
use Prim.Native.Nat.{ℕ, suc, ◌+◌, ◌≤◌, ◌<◌}
use native.Mathlib.Numerals.{add-one}
use native.Mathlib.Omega.{arith}
use lib.Dec.{leb, ltb}
use lib.ListN.{length, get_or, set, take, drop, length-append, length-set, length-drop}
use lib.Seq.{drop-cons, set-append_seam}
use borrow.Author.Tests.{le-leb, lt-leb, lt-ltb, le-ltb}
use Rattle.syntax.specs.Limits.{entry_characters}
use Rattle.syntax.specs.Policy.{star}
use Rattle.syntax.specs.Forms.{both, all, is_action}
use Rattle.parts.proofs.Laws.Slots.{both_true}
use Rattle.writing.specs.WrittenForm.{bare}
use Rattle.candidates.specs.Beginnings.{begins}
use Rattle.candidates.specs.Entries.{Place, in_action, in_resource, in_row, is_plain, has_form, is_legal}
use Rattle.candidates.specs.Entries.{legal_text}
use Rattle.candidates.specs.Entries.{legal_beginning}
use Rattle.candidates.specs.Places.{form_of, star_of, Starts}
use Rattle.candidates.proofs.Laws.Plain.{plain_bare}

-- ---- tests one behind the other

pub both_no : (t : Bool) → both t false ≡ false
both_no true = refl
both_no false = refl

pub both_yes : (t : Bool) → both t true ≡ t
both_yes true = refl
both_yes false = refl

module _ (p : Place) where
  bare_all : (t : List ℕ) → all (is_plain p) t ≡ true → map bare t ≡ t
  unfolding all
  bare_all [] e = refl
  bare_all (c ∷ t) e =
      let h = both_true (is_plain p c) (all (is_plain p) t) e in
      ap (λ (x : ℕ). x ∷ map bare t) (plain_bare p c h.0) ∙ ap (λ (l : List ℕ). c ∷ l) (bare_all t h.1)

  -- what is behind plain characters as it is written
  bare_before : (t zs : List ℕ) → all (is_plain p) t ≡ true → map bare (t ++ zs) ≡ t ++ map bare zs
  unfolding all
  bare_before [] zs e = refl
  bare_before (c ∷ t) zs e =
      let h = both_true (is_plain p c) (all (is_plain p) t) e in
      ap (λ (x : ℕ). x ∷ map bare (t ++ zs)) (plain_bare p c h.0)
      ∙ ap (λ (l : List ℕ). c ∷ l) (bare_before t zs h.1)

form_plain : (p : Place) (t : List ℕ) → all (is_plain p) t ≡ true → has_form p t ≡ form_of p t
form_plain in_action t e = ap is_action (bare_all in_action t e)
form_plain in_resource t e = refl
form_plain (in_row o) t e = refl

form_starred :
    (p : Place) (q : List ℕ) → all (is_plain p) q ≡ true
    → has_form p (q ++ (star ∷ [])) ≡ form_of p (q ++ (star_of p ∷ []))
unfolding bare
form_starred in_action q e = ap is_action (bare_before in_action q (star ∷ []) e)
form_starred in_resource q e = refl
form_starred (in_row o) q e = refl

-- ---- a single text

module _ (p : Place) (t : List ℕ) where
  abbrev plains : Bool
  plains = all (is_plain p) t

  pub text_not_plain : plains ≡ false → false ≡ legal_text p t
  unfolding legal_text
  text_not_plain e = rw e refl

  pub text_long : entry_characters < length t → false ≡ legal_text p t
  unfolding legal_text
  text_long h =
      sym (ap (λ (b : Bool). both plains (both (has_form p t) b)) (lt-leb (length t) entry_characters h)
      ∙ ap (both plains) (both_no (has_form p t)) ∙ both_no plains)

  pub text_formed : plains ≡ true → length t ≤ entry_characters → form_of p t ≡ legal_text p t
  unfolding legal_text
  text_formed e h =
      sym (ap (λ (b : Bool). both b (both (has_form p t) (leb (length t) entry_characters))) e
      ∙ ap (both (has_form p t)) (le-leb (length t) entry_characters h) ∙ both_yes (has_form p t) ∙ form_plain p t e)

-- ---- a beginning

module _ (p : Place) (b q : List ℕ) where
  abbrev begun : Bool
  begun = both (begins b q) (ltb (length b) (length q))

  abbrev legal : Bool
  legal = is_legal p (q ++ (star ∷ []))

  pub begun_short : length q ≤ length b → false ≡ legal_beginning p b q
  unfolding legal_beginning
  begun_short h =
      sym (ap (λ (t : Bool). both (both (begins b q) t) (both (all (is_plain p) q) legal))
      (le-ltb (length b) (length q) h)
      ∙ ap (λ (t : Bool). both t (both (all (is_plain p) q) legal)) (both_no (begins b q)))

  pub begun_not : begins b q ≡ false → false ≡ legal_beginning p b q
  unfolding legal_beginning
  begun_not e = rw e refl

  pub begun_not_plain : all (is_plain p) q ≡ false → false ≡ legal_beginning p b q
  unfolding legal_beginning
  begun_not_plain e = sym (ap (λ (t : Bool). both begun (both t legal)) e ∙ both_no begun)

  one_longer : length (q ++ (star ∷ [])) ≡ suc (length q)
  one_longer = omega (arith, length-append q (star ∷ []))

  pub begun_long : entry_characters ≤ length q → false ≡ legal_beginning p b q
  unfolding legal_beginning
  begun_long h =
      let e : leb (length (q ++ (star ∷ []))) entry_characters ≡ false =
      lt-leb (length (q ++ (star ∷ []))) entry_characters (omega (arith, one_longer)) in
      sym (ap (λ (t : Bool). both begun (both (all (is_plain p) q) (both (has_form p (q ++ (star ∷ []))) t))) e
      ∙ ap (λ (t : Bool). both begun (both (all (is_plain p) q) t)) (both_no (has_form p (q ++ (star ∷ []))))
      ∙ ap (both begun) (both_no (all (is_plain p) q)) ∙ both_no begun)

  pub begun_formed :
      begins b q ≡ true → length b < length q → all (is_plain p) q ≡ true → length q < entry_characters
      → form_of p (q ++ (star_of p ∷ [])) ≡ legal_beginning p b q
  unfolding legal_beginning
  begun_formed e h f k =
      let g : leb (length (q ++ (star ∷ []))) entry_characters ≡ true =
      le-leb (length (q ++ (star ∷ []))) entry_characters (omega (arith, one_longer)) in
      let form = has_form p (q ++ (star ∷ [])) in
      sym (ap (λ (t : Bool). both (both t (ltb (length b) (length q))) (both (all (is_plain p) q) legal)) e
      ∙ ap (λ (t : Bool). both t (both (all (is_plain p) q) legal)) (lt-ltb (length b) (length q) h)
      ∙ ap (λ (t : Bool). both t legal) f ∙ ap (both form) g ∙ both_yes form ∙ form_starred p q f)

-- ---- a text and its star

taken_before : (q zs : List ℕ) (a : ℕ) → take (suc (length q)) (q ++ (a ∷ zs)) ≡ q ++ (a ∷ [])
taken_before [] zs a = refl
taken_before (x ∷ q) zs a = ap (λ (l : List ℕ). x ∷ l) (taken_before q zs a)

pub starts_set :
    (q before : List ℕ) (a : ℕ) {front : List ℕ} → front ≡ q → length q < length before
    → Starts q a before (set (front ++ drop (length q) before) (length q) a)
starts_set q before a {front} e h =
    let n = length q in
    let d : front ++ drop n before ≡ q ++ (get_or before n 0 ∷ drop (suc n) before) =
    ap (λ (l : List ℕ). l ++ drop n before) e ∙ ap (λ (l : List ℕ). q ++ l) (drop-cons before n 0 h) in
    let s : set (front ++ drop n before) n a ≡ q ++ (a ∷ drop (suc n) before) =
    ap (λ (l : List ℕ). set l n a) d ∙ set-append_seam q (get_or before n 0) (drop (suc n) before) a in
    record {
      size = length-set (front ++ drop n before) n a
          ∙ omega (arith, ap length d, length-append q (get_or before n 0 ∷ drop (suc n) before), length-drop (suc n) before);
      is = ap (take (suc n)) s ∙ taken_before q (drop (suc n) before) a;
    }

pub starts_part :
    {q before after : List ℕ} {a : ℕ} → Starts q a before after → take (length q + 1) after ≡ q ++ (a ∷ [])
starts_part {q} {after = after} w = ap (λ (n : ℕ). take n after) (add-one (length q)) ∙ w.is
