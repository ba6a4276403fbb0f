-- One level more changes no verdict but Deep, since kin stacks meet each byte alike until one lacks a level to open.
--   Keeps m n       the moves m and n of kin stacks: alike, or a level too deep for the one and opened by the other
--   Meets k l m n   the same of kin items, where the kin stacks k and l stand under them
use mathlib.Core.Path.{◌≡◌, refl}
use mathlib.Core.Bool.{Bool, true, false}
use mathlib.Core.List.{List, [], ◌∷◌, ◌++◌, append_assoc}
use Prim.Native.Nat.{ℕ, zero, suc, ◌+◌}
use native.Mathlib.Nat.{zero-add, suc-add}
use lib.Dec.{eqb}
use Rattle.chars.specs.Base.{pick, within, one_of}
use Rattle.text.specs.Machine.{Item, ws, text, next, Move, pass, bad, deep, go, close, before, inner, letters}
use Rattle.text.specs.Machine.{high, leads, owing, opens, move_integer, move_exponent, begins, enters, move}
use Rattle.text.specs.Machine.{optional, onto, feed, ends, after, run, from, verdict_at}
use Rattle.text.specs.declared.scan.Shape.{Shape}
use Rattle.text.specs.declared.scan.Shape.TheVariants.{List as list, Object as object}
use Rattle.std.specs.Prelude.{Err}
use Rattle.text.specs.Verdicts.{Verdict}
use Rattle.text.specs.declared.fault.Fault.TheVariants.{Deep}
use Rattle.text.proofs.Laws.Moves.Values.{first_close}
use Rattle.text.proofs.Laws.Live.{Lax, l_ws, l_digits, l_fraction, l_exponent, Shut, s_byte, s_range, s_hex}
use Rattle.text.proofs.Laws.Live.{s_text, s_escape, s_digit, s_sign, s_first, s_next, Calm, calm_close}
use Rattle.text.proofs.Laws.Live.{calm_quote, Ends, ends_lax, ends_shut, Kin, none, lax, shut, an_integer}
use Rattle.text.proofs.Laws.Live.{a_value, kin_ends_more, kin_text, kin_tail, kin_hex, kin_digit, kin_word}
use Rattle.text.proofs.Laws.Live.{kin_first, kin_next, kin_inner, kin_name, kin_start}

pub data Keeps : Move → Move → Type 0 where
  both_pass : Keeps pass pass
  both_bad : Keeps bad bad
  both_go : {k l : List Item} {w : List ℕ} → Kin k l w → Keeps (go k) (go l)
  one_deep : {l : List Item} {w : List ℕ} → Ends l w → Keeps deep (go l)

data Meets (k l : List Item) : Move → Move → Type 0 where
  passes : Meets k l pass pass
  refuses : Meets k l bad bad
  goes : {xs ys : List Item} {w : List ℕ} → Kin (xs ++ k) (ys ++ l) w → Meets k l (go xs) (go ys)
  sinks : {ys : List Item} {w : List ℕ} → Ends (ys ++ l) w → Meets k l deep (go ys)

module _ {k l : List Item} where
  meets_onto : {m n f g : Move} → Meets k l m n → Keeps f g → Keeps (onto m k f) (onto n l g)
  meets_onto passes h = h
  meets_onto refuses h = both_bad
  meets_onto (goes g) h = both_go g
  meets_onto (sinks e) h = one_deep e

  meets_pick : (t : Bool) {m n p q : Move} → Meets k l m n → Meets k l p q → Meets k l (pick t m p) (pick t n q)
  meets_pick true h g = h
  meets_pick false h g = g

  meets_owing : (us vs : List Item) {m n : Move} → Meets (us ++ k) (vs ++ l) m n → Meets k l (owing m us) (owing n vs)
  meets_owing us vs passes = passes
  meets_owing us vs refuses = refuses
  meets_owing us vs (goes {xs} {ys} g) = goes (rw (← append_assoc xs us k, ← append_assoc ys vs l) at g)
  meets_owing us vs (sinks {ys} e) = sinks (rw (← append_assoc ys vs l) at e)

-- ---- item by item

module _ {k l : List Item} {w : List ℕ} (g : Kin k l w) where
  meets_high : (b : ℕ) → Meets k l (high b) (high b)
  unfolding high move
  meets_high b =
      let one = kin_tail g in
      let two = kin_tail one in
      meets_pick (within 194 223 b) (goes one)
      (meets_pick (eqb b 224) (goes (shut {b = 160} s_range refl refl one))
      (meets_pick (eqb b 237) (goes (shut {b = 128} s_range refl refl one))
      (meets_pick (within 225 239 b) (goes two)
      (meets_pick (eqb b 240) (goes (shut {b = 144} s_range refl refl two))
      (meets_pick (within 241 243 b) (goes (kin_tail two))
      (meets_pick (eqb b 244) (goes (shut {b = 128} s_range refl refl two)) refuses))))))

  meets_leads : (b : ℕ) → Meets k l (leads b) (leads b)
  unfolding leads move one_of
  meets_leads b =
      meets_pick (eqb b 92) (goes (shut {b = 34} s_escape refl refl g))
      (meets_pick (within 32 127 b) (goes g) (meets_high b))

  meets_opens : (sh : Shape) (n : ℕ) → Meets k l (opens sh n) (opens sh (suc n))
  meets_opens sh zero =
      sinks (ends_lax l_ws (calm_close sh) (ends_shut (first_close (close sh) sh 0 refl) (kin_ends_more g)))
  meets_opens sh (suc n) = goes (lax l_ws (calm_close sh) (kin_first g sh n))

  meets_comma : (sh : Shape) (n : ℕ)
      → Meets k l (go (ws ∷ (before sh ++ inner sh n))) (go (ws ∷ (before sh ++ inner sh (suc n))))
  meets_comma list n = goes (lax l_ws calm_quote (kin_inner g list n))
  meets_comma object n = goes (lax l_ws calm_quote (kin_word (kin_name calm_quote (kin_inner g object n)) (34 ∷ [])))

  module _ (c : Calm w) (b : ℕ) where
    meets_integer : Meets k l (move_integer b) (move_integer b)
    meets_integer =
        let fractions = lax l_fraction c g in
        meets_pick (eqb b 48) (goes fractions) (meets_pick (within 49 57 b) (goes (lax l_digits c fractions)) refuses)

    meets_exponent : Meets k l (move_exponent b) (move_exponent b)
    unfolding move one_of
    meets_exponent =
        let signed = shut {b = 43} s_sign refl refl (kin_digit (lax l_digits c g)) in
        meets_pick (one_of (69 ∷ 101 ∷ []) b) (goes signed) passes

    meets_begins : (n : ℕ) → Meets k l (begins n b) (begins (suc n) b)
    unfolding begins
    meets_begins n =
        meets_pick (eqb b 34) (goes (kin_text g))
        (meets_pick (eqb b 45) (goes (an_integer c g))
        (meets_pick (within 48 57 b) meets_integer
        (meets_pick (eqb b 91) (meets_opens list n)
        (meets_pick (eqb b 102) (goes (kin_word g (97 ∷ 108 ∷ 115 ∷ 101 ∷ [])))
        (meets_pick (eqb b 110) (goes (kin_word g (117 ∷ 108 ∷ 108 ∷ [])))
        (meets_pick (eqb b 116) (goes (kin_word g (114 ∷ 117 ∷ 101 ∷ [])))
        (meets_pick (eqb b 123) (meets_opens object n) refuses)))))))

    meets_lax : {x : Item} → Lax x → Meets k l (move x b) (move x b)
    unfolding move
    meets_lax l_ws =
        let again = goes (lax l_ws c g) in
        meets_pick (within 9 10 b) again (meets_pick (one_of (13 ∷ 32 ∷ []) b) again passes)
    meets_lax l_digits = meets_pick (within 48 57 b) (goes (lax l_digits c g)) passes
    meets_lax l_fraction =
        meets_pick (eqb b 46) (goes (kin_digit (lax l_digits c (lax l_exponent c g)))) meets_exponent
    meets_lax l_exponent = meets_exponent

module _ {k l : List Item} {w : List ℕ} (g : Kin k l w) (b : ℕ) where
  meets_enters : (sh : Shape) (n : ℕ) → Meets k l (enters sh n b) (enters sh (suc n) b)
  meets_enters list n =
      let begun = meets_begins (kin_next g list n) (calm_close list) b n in
      meets_owing (ws ∷ next list n ∷ []) (ws ∷ next list (suc n) ∷ []) begun
  meets_enters object n = meets_pick (eqb b 34) (goes (kin_name calm_quote (kin_inner g object n))) refuses

  meets_shut : {x y : Item} → Shut x y → Meets k l (move x b) (move y b)
  unfolding move
  meets_shut (s_byte {x}) = meets_pick (eqb b x) (goes g) refuses
  meets_shut (s_range {lo} {hi}) = meets_pick (within lo hi b) (goes g) refuses
  meets_shut s_hex =
      meets_pick (within 48 57 b) (goes g)
      (meets_pick (within 65 70 b) (goes g) (meets_pick (within 97 102 b) (goes g) refuses))
  meets_shut s_text =
      meets_pick (eqb b 34) (goes g) (meets_owing (text ∷ []) (text ∷ []) (meets_leads (kin_text g) b))
  meets_shut s_escape =
      let four = kin_hex (kin_hex (kin_hex (kin_hex g))) in
      meets_pick (one_of letters b) (goes g) (meets_pick (eqb b 117) (goes four) refuses)
  meets_shut s_digit = meets_pick (within 48 57 b) (goes g) refuses
  meets_shut s_sign = meets_pick (one_of (43 ∷ 45 ∷ []) b) (goes g) passes
  meets_shut (s_first {sh} {n}) = meets_pick (eqb b (close sh)) (goes g) (meets_enters sh n)
  meets_shut (s_next {sh} {n}) =
      meets_pick (eqb b (close sh)) (goes g) (meets_pick (eqb b 44) (meets_comma g sh n) refuses)

-- ---- stack by stack

pub kin_feed : {k l : List Item} {w : List ℕ} → Kin k l w → (b : ℕ) → Keeps (feed k b) (feed l b)
unfolding feed move
kin_feed none b = both_bad
kin_feed (lax x c g) b = meets_onto (meets_lax g c b x) (kin_feed g b)
kin_feed (shut x m n g) b = meets_onto (meets_shut g b x) (kin_feed g b)
kin_feed (an_integer c g) b = meets_onto (meets_integer g c b) (kin_feed g b)
kin_feed (a_value {n} c g) b = meets_onto (meets_begins g c b n) (kin_feed g b)

shut_optional : {x y : Item} → Shut x y → optional x ≡ optional y
unfolding optional
shut_optional s_byte = refl
shut_optional s_range = refl
shut_optional s_hex = refl
shut_optional s_text = refl
shut_optional s_escape = refl
shut_optional s_digit = refl
shut_optional s_sign = refl
shut_optional s_first = refl
shut_optional s_next = refl

kin_end : {k l : List Item} {w : List ℕ} → Kin k l w → ends k ≡ ends l
unfolding ends optional
kin_end none = refl
kin_end (lax x c g) = rw (kin_end g)
kin_end (shut x m n g) = rw (shut_optional x, kin_end g)
kin_end (an_integer c g) = refl
kin_end (a_value c g) = refl

-- ---- text by text

module _ (v : Verdict) (other : Err Deep ≡ v → ⊥) where
  more_on : {m n : Move} (f : List Item → Verdict) (at : ℕ) → Keeps m n
      → ((k l : List Item) (w : List ℕ) → Kin k l w → f k ≡ v → f l ≡ v) → after m at f ≡ v → after n at f ≡ v
  more_on f at both_pass r e = e
  more_on f at both_bad r e = e
  more_on f at (both_go {k} {l} {w} g) r e = r k l w g e
  more_on f at (one_deep h) r e = absurd (other e)

  run_more : {k l : List Item} {w : List ℕ} (bs : List ℕ) (at : ℕ) → Kin k l w → run k bs at ≡ v → run l bs at ≡ v
  unfolding run
  run_more [] at g e = rw (kin_end g) at e
  run_more (b ∷ bs) at g e = more_on (λ j. run j bs (at + 1)) at (kin_feed g b) (λ k l w. run_more bs (at + 1)) e

  -- with d levels more
  pub verdict_more : (d n : ℕ) (s : List ℕ) → verdict_at n s ≡ v → verdict_at (d + n) s ≡ v
  unfolding verdict_at from
  verdict_more zero n s e = rw (zero-add n) e
  verdict_more (suc d) n s e = rw (suc-add d n) (run_more s 0 (kin_start (d + n)) (verdict_more d n s e))
