-- The order of trying comes to the answer of the test: a look that goes on keeps what is known and leaves less to do.
use mathlib.Core.Path.{◌≡◌, refl, sym, subst}
use mathlib.Core.Bool.{Bool, true, false}
use mathlib.Core.List.{List}
use Prim.Native.Nat.{ℕ, zero, suc, ◌+◌, ◌<◌}
use native.Mathlib.Decide.{dec_lt}
use native.Mathlib.Omega.{arith}
use lib.Dec.{eqb, ltb}
use lib.ListN.{length, get_or}
use borrow.Author.Tests.{eqb-true, eqb-false, eq-eqb, lt-ltb, le-ltb}
use Rattle.chars.specs.Base.{pick}
use Rattle.decision.specs.declared.matching.Place.{Place}
use Rattle.std.proofs.Common.{ControlFlow, Continue, Break}
use Rattle.syntax.specs.Policy.{star, any}
use Rattle.syntax.specs.Forms.{either}
use Rattle.decision.specs.Matching.{Matches, stands, matches, retry, at_end, at_symbol, next, Alike}
use Rattle.parts.proofs.Laws.Slots.{true_false}
use Rattle.decision.proofs.Laws.Matching.{matches_complete, matches_not}
use Rattle.decision.proofs.Laws.MatchingPlaces.{From, Tracks, left, tracks_start, tracks_star, left_star, tracks_both}
use Rattle.decision.proofs.Laws.MatchingPlaces.{left_both}
use Rattle.decision.proofs.Laws.MatchingPlaces.{other_missed, short, ends_both, ends_star, end_missed}
use Rattle.decision.proofs.Laws.MatchingPlaces.{none_left, tracks_again, left_again}

pub data Turn (e t : List ℕ) (at : Place) : ControlFlow Bool Place → Type 0 where
  goes : {to : Place} → Tracks e t to → left e t to < left e t at → Turn e t at (Continue to)
  stops : {found : Bool} → found ≡ matches e t → Turn e t at (Break found)

module _ {e t : List ℕ} {at : Place} where
  by_test : {m n : ControlFlow Bool Place} (b : Bool) → (b ≡ true → Turn e t at m) → (b ≡ false → Turn e t at n)
      → Turn e t at (pick b m n)
  by_test true p q = p refl
  by_test false p q = q refl

  by_equal : {m n : ControlFlow Bool Place} (i j : ℕ) → (i ≡ j → Turn e t at m) → ((i ≡ j → ⊥) → Turn e t at n)
      → Turn e t at (pick (eqb i j) m n)
  by_equal i j p q = by_test (eqb i j) (λ h. p (eqb-true i j h)) (λ h. q (eqb-false i j h))

  found_it : Matches e t → Turn e t at (Break true)
  found_it m = stops (sym (matches_complete m))

  found_none : (Matches e t → ⊥) → Turn e t at (Break false)
  found_none n = stops (sym (matches_not e t n))

module _ (e t : List ℕ) (at : Place) (w : Tracks e t at) where
  turn_retry : at.character < length t → (From e t at.symbol at.character → ⊥) → Turn e t at (retry at)
  unfolding retry
  turn_retry k n =
      by_equal at.behind 0 (λ z. found_none (none_left e t at w n z))
      (λ z. goes (tracks_again e t at w n k (omega arith)) (left_again e t at w n k))

  turn_end : at.symbol ≡ length e → Turn e t at (at_end t at)
  unfolding at_end
  turn_end z =
      by_equal at.character (length t) (λ y. found_it (ends_both e t at w z y))
      (λ y. by_equal at.behind at.symbol (λ b. rest y b (dec_lt 0 at.symbol))
      (λ b. turn_retry (inside y) (off y)))
    where
      inside : (at.character ≡ length t → ⊥) → at.character < length t
      inside y = omega (arith, w.text)

      off : (at.character ≡ length t → ⊥) → From e t at.symbol at.character → ⊥
      off y = end_missed e t at w z (inside y)

      rest : (at.character ≡ length t → ⊥) → at.behind ≡ at.symbol → Dec (0 < at.symbol)
          → Turn e t at (Break (ltb 0 at.symbol))
      rest y b (yes h) = rw (lt-ltb 0 at.symbol h) (found_it (ends_star e t at w z b h))
      rest y b (no h) = rw (le-ltb 0 at.symbol (omega arith)) (found_none (none_left e t at w (off y) (omega arith)))

  turn_symbol : at.symbol < length e → Turn e t at (at_symbol (get_or e at.symbol 0) t at)
  unfolding at_symbol
  turn_symbol h =
      by_equal (get_or e at.symbol 0) star (λ s. goes (tracks_star e t at w h s) (left_star e t at w h s))
      (λ n. by_equal at.character (length t) (λ y. found_none (short e t at w h n y))
      (λ y. by_test (stands (get_or e at.symbol 0) (get_or t at.character 0))
      (λ s. goes (tracks_both e t at w h n (inside y) s) (left_both e t at w h n))
      (λ s. turn_retry (inside y) (other_missed e t at w h n (inside y) (λ p. true_false p s)))))
    where
      inside : (at.character ≡ length t → ⊥) → at.character < length t
      inside y = omega (arith, w.text)

  pub next_turn : Turn e t at (next e t at)
  unfolding next
  next_turn = by_equal at.symbol (length e) turn_end (λ z. turn_symbol (omega (arith, w.entry)))

  -- ---- for a loop over looks

  pub next_tracks : {to : Place} → next e t at ≡ Continue to → Tracks e t to
  next_tracks h = of (rw h at next_turn)
    where
      of : {to : Place} → Turn e t at (Continue to) → Tracks e t to
      of (goes v l) = v

  pub next_less : {to : Place} → next e t at ≡ Continue to → left e t to < left e t at
  next_less h = of (rw h at next_turn)
    where
      of : {to : Place} → Turn e t at (Continue to) → left e t to < left e t at
      of (goes v l) = l

  pub next_answer : {found : Bool} → next e t at ≡ Break found → found ≡ matches e t
  next_answer h = of (rw h at next_turn)
    where
      of : {found : Bool} → Turn e t at (Break found) → found ≡ matches e t
      of (stops r) = r

-- ---- a beginning in common

stands_same : (x c : ℕ) → x ≡ c → stands x c ≡ true
stands_same x c h = rw (eq-eqb x c h) (always (eqb x any))
  where
    always : (b : Bool) → either b true ≡ true
    always true = refl
    always false = refl

abbrev both_at : ℕ → Place
both_at n = record { symbol = n; character = n; behind = 0; tried = 0 }

pub tracks_alike : (e t : List ℕ) (n : ℕ) → Alike e t n → Tracks e t (both_at n)
tracks_alike e t zero a = tracks_start e t
tracks_alike e t (suc n) a =
    let before : Alike e t n = record {
      entry = omega (arith, a.entry);
      text = omega (arith, a.text);
      same = λ k h. a.same k (omega arith);
    } in
    let z : n + 1 ≡ suc n = omega arith in
    let last = a.same n (omega arith) in
    subst (λ (k : ℕ). Tracks e t (both_at k)) z
    (tracks_both e t (both_at n) (tracks_alike e t n before) (omega (arith, a.entry)) last.1 (omega (arith, a.text))
    (stands_same _ _ last.0))
