-- What the places of a look tell of the whole match. Only the last star has to be tried again: in a match where an
-- earlier star takes more, the last one begins later, and begun here it can take what lies between as well.
use mathlib.Core.Path.{◌≡◌, refl, ap, sym, ◌∙◌}
use mathlib.Core.Bool.{true}
use mathlib.Core.List.{List, [], ◌∷◌}
use Prim.Native.Nat.{ℕ, ◌+◌, ◌*◌, ◌-◌, ◌≤◌, ◌<◌}
use native.Mathlib.Decide.{ℕ_discrete}
use native.Mathlib.Nat.{mul-le-mul_right}
use native.Mathlib.Omega.{arith}
use lib.ListN.{length, get_or, drop, drop_of_length-le}
use lib.Seq.{drop-drop}
use Rattle.decision.specs.declared.matching.Place.{Place}
use Rattle.syntax.specs.Policy.{star}
use Rattle.decision.specs.Matching.{Matches, over, stands, start, past_star, past_both, again, Inside}
use Rattle.syntax.proofs.Laws.Forms.{drop_next}
use Rattle.decision.proofs.Laws.Matching.{star_inv, star_takes, one_inv, one_takes, none_inv}

-- the entry from place i on matches the text from place j on
abbrev pub From : List ℕ → List ℕ → ℕ → ℕ → Type 0
From e t i j = Matches (drop i e) (drop j t)

-- a place of the text from which what follows the last star matches: not before the one tried, and that very one where
-- there is no star
pub record Found (e t : List ℕ) (at : Place) : Type 0 where
  pub place : ℕ
  pub late : at.tried ≤ place
  pub fixed : at.behind ≡ 0 → place ≡ at.tried
  pub rest : From e t at.behind place

-- what every look keeps
pub record Tracks (e t : List ℕ) (at : Place) : Type 0 where
  pub entry : at.symbol ≤ length e
  pub text : at.character ≤ length t
  pub passed : at.behind ≤ at.symbol
  -- since the last star, as many symbols were passed as characters
  pub even : at.tried + at.symbol ≡ at.character + at.behind
  -- none of these symbols is a star: wherever they match, they take so many characters
  pub apart : (j : ℕ) → From e t at.behind j → From e t at.symbol (j + (at.symbol - at.behind))
  -- a match from here on is one of the whole; so is one from behind the last star on, at the place tried or a later one
  pub here : From e t at.symbol at.character → Matches e t
  pub later : 0 < at.behind → (j : ℕ) → at.tried ≤ j → From e t at.behind j → Matches e t
  -- and the whole has no other
  pub found : Matches e t → Found e t at

-- what is left to do: a whole entry at each later place of the text, and the rest of the entry at this one
abbrev pub left : List ℕ → List ℕ → Place → ℕ
left e t at = (length t - at.tried) * (length e + 1) + (length e - at.symbol)

shifted : {e : List ℕ} (t : List ℕ) (j k : ℕ) → j ≡ k → Matches e (drop j t) → Matches e (drop k t)
shifted t j k h m = rw (← h) m

rest_at : (t : List ℕ) (j c : ℕ) (r : List ℕ) → drop j t ≡ c ∷ r → r ≡ drop (j + 1) t
rest_at t j c r h = sym (ap (drop 1) h) ∙ drop-drop 1 j t

less_later : (m n i j f : ℕ) → f < n → i ≤ m → (n - (f + 1)) * (m + 1) + (m - j) < (n - f) * (m + 1) + (m - i)
less_later m n i j f h k =
    let g : n - f ≡ (n - (f + 1)) + 1 = omega arith in
    let d : (n - f) * (m + 1) ≡ (n - (f + 1)) * (m + 1) + (m + 1) = rw g (omega arith) in
    omega arith

less_star : (m n i f j : ℕ) → f ≤ j → i < m → (n - j) * (m + 1) + (m - (i + 1)) < (n - f) * (m + 1) + (m - i)
less_star m n i f j h k =
    let g : n - j ≤ n - f = omega arith in
    omega (arith, mul-le-mul_right (m + 1) g)

module _ (e t : List ℕ) where
  pub tracks_start : Tracks e t start
  tracks_start =
      record {
        entry = omega arith;
        text = omega arith;
        passed = omega arith;
        even = refl;
        apart = λ j m. shifted t j (j + (0 - 0)) (omega arith) m;
        here = λ m. m;
        later = λ h. absurd (omega arith);
        found = λ m. record { place = 0; late = omega arith; fixed = λ z. refl; rest = m };
      }

  module _ (at : Place) (w : Tracks e t at) where
    pub tracks_inside : Inside e t at
    tracks_inside =
        record { entry = w.entry; text = w.text; trial = omega (arith, w.text, w.even, w.passed) }

    -- a match of the whole has one of what is left here, at this character or a later one
    ahead : Matches e t → (j : ℕ) × (at.character ≤ j) × From e t at.symbol j
    ahead m =
        let f = w.found m in
        let j = f.place + (at.symbol - at.behind) in
        (j, omega (arith, f.late, w.even, w.passed), w.apart f.place f.rest)

    -- ---- a star

    module _ (h : at.symbol < length e) (s : get_or e at.symbol 0 ≡ star) where
      takes : (j : ℕ) → at.character ≤ j → From e t (at.symbol + 1) j → Matches e t
      takes j l m =
          w.here (rw (drop_next e at.symbol h, s) (star_takes (j - at.character) (drop at.character t)
          (rw drop-drop (shifted t j (at.character + (j - at.character)) (omega arith) m))))

      pub tracks_star : Tracks e t (past_star at)
      tracks_star =
          record {
            entry = omega arith;
            text = w.text;
            passed = omega arith;
            even = refl;
            apart = λ j m. shifted t j (j + (at.symbol + 1 - (at.symbol + 1))) (omega arith) m;
            here = takes at.character (omega arith);
            later = λ z j l m. takes j l m;
            found = λ m.
                let r = ahead m in
                let q = star_inv s (rw (drop_next e at.symbol h) at r.2) in
                record {
                  place = r.0 + q.0;
                  late = omega (arith, r.1);
                  fixed = λ z. absurd (omega arith);
                  rest = rw drop-drop at q.1;
                };
          }

      pub left_star : left e t (past_star at) < left e t at
      left_star =
          less_star (length e) (length t) at.symbol at.tried at.character
          (omega (arith, w.even, w.passed)) h

    -- ---- another symbol

    module _ (h : at.symbol < length e) (n : get_or e at.symbol 0 ≡ star → ⊥) where
      pub tracks_both : at.character < length t
          → stands (get_or e at.symbol 0) (get_or t at.character 0) ≡ true → Tracks e t (past_both at)
      tracks_both k s =
          record {
            entry = omega arith;
            text = omega arith;
            passed = omega (arith, w.passed);
            even = omega (arith, w.even);
            apart = λ j m.
                let i = j + (at.symbol - at.behind) in
                let r = one_inv n (rw (drop_next e at.symbol h) at (w.apart j m)) in
                shifted t (i + 1) (j + (at.symbol + 1 - at.behind)) (omega (arith, w.passed))
                (rw (rest_at t i r.character r.rest r.is) at r.on);
            here = λ m. w.here (rw (drop_next e at.symbol h, drop_next t at.character k) (one_takes n s m));
            later = w.later;
            found = λ m.
                let f = w.found m in
                record { place = f.place; late = f.late; fixed = f.fixed; rest = f.rest };
          }

      pub left_both : left e t (past_both at) < left e t at
      left_both = omega (arith, h)

      pub other_missed : at.character < length t
          → (stands (get_or e at.symbol 0) (get_or t at.character 0) ≡ true → ⊥)
          → From e t at.symbol at.character → ⊥
      other_missed k s m =
          let r = one_inv n (rw (drop_next e at.symbol h, drop_next t at.character k) at m) in
          s (rw (head_is r.is) r.stood)
        where
          head_is : {c d : ℕ} {x y : List ℕ} → c ∷ x ≡ d ∷ y → c ≡ d
          head_is z = cc

      -- the text is over
      pub short : at.character ≡ length t → Matches e t → ⊥
      short z m =
          let j = ahead m in
          let none : drop j.0 t ≡ [] = drop_of_length-le t {i = j.0} (omega (arith, j.1)) in
          let r = one_inv n (rw (drop_next e at.symbol h, none) at j.2) in
          let y = r.is in
          absurd (let o : ◌≡◌ {A = ℕ} 0 1 = cc in omega arith)

    -- ---- the entry is over

    module _ (z : at.symbol ≡ length e) where
      past : drop at.symbol e ≡ []
      past = drop_of_length-le e {i = at.symbol} (omega arith)

      pub ends_both : at.character ≡ length t → Matches e t
      ends_both y = w.here (rw (past, drop_of_length-le t {i = at.character} (omega arith)) over)

      pub ends_star : at.behind ≡ at.symbol → 0 < at.symbol → Matches e t
      ends_star b h =
          w.later (omega arith) (length t) (omega (arith, w.text, w.even, w.passed))
          (rw (b, past, drop_of_length-le t {i = length t} (omega arith)) over)

      pub end_missed : at.character < length t → From e t at.symbol at.character → ⊥
      end_missed k m = none_inv (rw (past, drop_next t at.character k) at m)

    -- ---- no match here

    module _ (n : From e t at.symbol at.character → ⊥) where
      not_tried : From e t at.behind at.tried → ⊥
      not_tried m =
          n (shifted t (at.tried + (at.symbol - at.behind)) at.character (omega (arith, w.even, w.passed))
          (w.apart at.tried m))

      pub none_left : at.behind ≡ 0 → Matches e t → ⊥
      none_left z m = let f = w.found m in not_tried (shifted t f.place at.tried (f.fixed z) f.rest)

      after : {k : ℕ} → Dec (k ≡ at.tried) → at.tried ≤ k → From e t at.behind k → at.tried + 1 ≤ k
      after {k} (yes y) l m = absurd (not_tried (shifted t k at.tried y m))
      after {k} (no y) l m = omega arith

      pub tracks_again : at.character < length t → 0 < at.behind → Tracks e t (again at)
      tracks_again k h =
          record {
            entry = omega (arith, w.entry, w.passed);
            text = omega (arith, w.even, w.passed);
            passed = omega arith;
            even = refl;
            apart = λ j m. shifted t j (j + (at.behind - at.behind)) (omega arith) m;
            here = w.later h (at.tried + 1) (omega arith);
            later = λ p j l. w.later p j (omega arith);
            found = λ m.
                let f = w.found m in
                record {
                  place = f.place;
                  late = after (ℕ_discrete f.place at.tried) f.late f.rest;
                  fixed = λ y. absurd (omega arith);
                  rest = f.rest;
                };
          }

      pub left_again : at.character < length t → left e t (again at) < left e t at
      left_again k =
          less_later (length e) (length t) at.symbol at.behind at.tried (omega (arith, w.even, w.passed))
          w.entry
