-- One walk over members fills every slot: the words of a layout differ, so a name has one turn, and what was found
-- before is kept beside what is still to come.
use mathlib.Core.Path.{◌≡◌, refl, sym, ap, ◌∙◌}
use mathlib.Core.Bool.{Bool, true, false, cond, not}
use mathlib.Core.List.{List, [], ◌∷◌}
use Prim.Native.Nat.{ℕ, zero, suc, ◌+◌, ◌≤◌, ◌<◌}
use native.Mathlib.Omega.{arith}
use native.Mathlib.Numerals.{sub-one}
use lib.Dec.{eqb, ltb}
use lib.ListN.{length, get_or}
use borrow.Author.Tests.{eqb-true, eq-eqb, lt-ltb, le-ltb}
use native.Mathlib.Decide.{dec_lt}
use Rattle.chars.specs.Base.{pick}
use Rattle.text.specs.Json.{Json, Members, named}
use Rattle.chars.specs.Decoding.{Text, text_of, equal, same_text}
use Rattle.syntax.specs.Forms.{both, either}
use Rattle.syntax.specs.Members.{Slot, none, one, many, again, slot, is_among}
use Rattle.std.specs.Prelude.{Option, Some, None}
use Rattle.std.specs.Borrow.{Bor}
use Rattle.std.specs.List.{position, position_or_len}
use Rattle.parts.specs.Slots.{later, which_of, as_turn, spelt, word_at, Turn}

-- ---- a text is one word

pub true_false : {t : Bool} → t ≡ true → t ≡ false → ⊥
true_false p q = let z : true ≡ false = sym p ∙ q in let y : ◌≡◌ {A = ℕ} 0 1 = cc in omega arith

pub both_true : (t u : Bool) → both t u ≡ true → (t ≡ true) × (u ≡ true)
both_true true u e = (refl, e)
both_true false u e = absurd (true_false e refl)

equal_is : (xs ys : List ℕ) → equal xs ys ≡ true → xs ≡ ys
unfolding equal
equal_is [] [] e = refl
equal_is [] (y ∷ ys) e = absurd (true_false e refl)
equal_is (x ∷ xs) [] e = absurd (true_false e refl)
equal_is (x ∷ xs) (y ∷ ys) e =
    let p = both_true (eqb x y) (equal xs ys) e in
    ap (λ (z : ℕ). z ∷ xs) (eqb-true x y p.0) ∙ ap (λ (l : List ℕ). y ∷ l) (equal_is xs ys p.1)

pub same_chars : (t : Text) (n : List ℕ) → same_text t n ≡ true → t.chars ≡ n
unfolding same_text
same_chars t n e = equal_is t.chars n (both_true t.sound (equal t.chars n) e).1

-- ---- words that differ

unfoldable pub differs : List ℕ → List (List ℕ) → Bool
differs n [] = true
differs n (m ∷ ms) = pick (equal n m) false (differs n ms)

unfoldable pub distinct : List (List ℕ) → Bool
distinct [] = true
distinct (n ∷ ns) = both (differs n ns) (distinct ns)

pub equal_refl : (xs : List ℕ) → equal xs xs ≡ true
unfolding equal
equal_refl [] = refl
equal_refl (x ∷ xs) = rw (eq-eqb x x refl) (equal_refl xs)

differs_on : (t : Bool) {u : Bool} → pick t false u ≡ true → (u ≡ true → ⊥) → ⊥
differs_on true d r = true_false d refl
differs_on false d r = r d

-- no later word is a word that differs from all of them
differs_not : (n : List ℕ) (ms : List (List ℕ)) (j : ℕ) → differs n ms ≡ true → j < length ms → get_or ms j [] ≡ n → ⊥
unfolding differs
differs_not n [] j d h e = omega arith
differs_not n (m ∷ ms) zero d h e = true_false d (rw (ap (equal n) e ∙ equal_refl n))
differs_not n (m ∷ ms) (suc j) d h e = differs_on (equal n m) d (λ r. differs_not n ms j r (omega arith) e)

-- ---- the turn of a name

-- a turn that is told, and one that is not
pub turn_some : (n : ℕ) {r : Option ℕ} {k : ℕ} → r ≡ as_turn n → r ≡ Some k → (k ≡ n) × (k ≡ 0 → ⊥)
turn_some zero p q = cc
turn_some (suc n) {k = k} p q = let e : k ≡ suc n = cc in (e, λ z. omega (arith, e, z))

pub turn_none : (n : ℕ) {r : Option ℕ} → r ≡ as_turn n → r ≡ None → 0 ≡ n
turn_none zero p q = refl
turn_none (suc n) p q = cc

-- the first of some words that a name spells has its turn
abbrev pub spells : List ℕ → Bor (List ℕ) → Bool
spells w n = same_text (text_of w) n.now

ltb_suc : (p n : ℕ) → ltb (suc p) (suc n) ≡ ltb p n
ltb_suc p n = by (dec_lt p n)
  where
    by : Dec (p < n) → ltb (suc p) (suc n) ≡ ltb p n
    by (yes h) = lt-ltb (suc p) (suc n) (omega arith) ∙ sym (lt-ltb p n h)
    by (no h) = le-ltb (suc p) (suc n) (omega arith) ∙ sym (le-ltb p n (omega arith))

turn_step : (t : Bool) (p k : ℕ) → cond t (Some (p + 1)) None ≡ as_turn k
    → cond t (Some (suc p + 1)) None ≡ as_turn (later k)
turn_step true p zero e = cc
turn_step true p (suc k) e = let z : p + 1 ≡ suc k = cc in ap Some (omega (arith, z))
turn_step false p zero e = refl
turn_step false p (suc k) e = cc

turn_is : (w : List ℕ) (ns : List (Bor (List ℕ)))
    → cond (ltb (position_or_len (spells w) ns) (length ns)) (Some (position_or_len (spells w) ns + 1)) None
    ≡ as_turn (which_of (spelt ns) w)
unfolding which_of
turn_is w [] = refl
turn_is w (n ∷ ns) = by (position_or_len (spells w) ns) (spells w n) (turn_is w ns)
  where
    by : (p : ℕ) (t : Bool) → cond (ltb p (length ns)) (Some (p + 1)) None ≡ as_turn (which_of (spelt ns) w)
        → cond (ltb (cond (not t) (1 + p) 0) (suc (length ns))) (Some (cond (not t) (1 + p) 0 + 1)) None
        ≡ as_turn (pick t 1 (later (which_of (spelt ns) w)))
    by p true e = rw (lt-ltb 0 (suc (length ns)) (omega arith))
    by p false e =
        let next : 1 + p ≡ suc p = omega arith in
        ap (λ (q : ℕ). cond (ltb q (suc (length ns))) (Some (q + 1)) None) next
        ∙ ap (λ (t : Bool). cond t (Some (suc p + 1)) None) (ltb_suc p (length ns))
        ∙ turn_step (ltb p (length ns)) p (which_of (spelt ns) w) e

module _ (w : List ℕ) (ns : List (Bor (List ℕ))) {r : Option ℕ} (is : r ≡ position (spells w) ns) where
  pub turn_at : {k : ℕ} → r ≡ Some k → Some (k + 1) ≡ as_turn (which_of (spelt ns) w)
  turn_at {k} e = by (position_or_len (spells w) ns) (ltb (position_or_len (spells w) ns) (length ns)) (sym e ∙ is) (turn_is w ns)
    where
      by : (p : ℕ) (t : Bool) → Some k ≡ cond t (Some p) None
          → cond t (Some (p + 1)) None ≡ as_turn (which_of (spelt ns) w)
          → Some (k + 1) ≡ as_turn (which_of (spelt ns) w)
      by p true f g = let z : k ≡ p = cc in ap (λ (i : ℕ). Some (i + 1)) z ∙ g
      by p false f g = cc

  pub turn_no : r ≡ None → None ≡ as_turn (which_of (spelt ns) w)
  turn_no e = by (position_or_len (spells w) ns) (ltb (position_or_len (spells w) ns) (length ns)) (sym e ∙ is) (turn_is w ns)
    where
      by : (p : ℕ) (t : Bool) → None ≡ cond t (Some p) None
          → cond t (Some (p + 1)) None ≡ as_turn (which_of (spelt ns) w)
          → None ≡ as_turn (which_of (spelt ns) w)
      by p true f g = cc
      by p false f g = g

later_is : (k : ℕ) → (later k ≡ 0 → k ≡ 0) × (later k ≤ k + 1)
later_is zero = (λ e. refl, omega arith)
later_is (suc k) = (λ e. absurd (omega arith), omega arith)

most_on : (t : Bool) (k m : ℕ) → k ≤ m → pick t 1 (later k) ≤ suc m
most_on true k m h = omega arith
most_on false k m h = let l = (later_is k).1 in omega arith

pub which_most : (ns : List (List ℕ)) (w : List ℕ) → which_of ns w ≤ length ns
unfolding which_of
which_most [] w = omega arith
which_most (n ∷ ns) w = most_on (same_text (text_of w) n) (which_of ns w) (length ns) (which_most ns w)

-- none of the words, or one
unknown_on : (t : Bool) (k : ℕ) (u : Bool) → pick t 1 (later k) ≡ 0 → (k ≡ 0 → u ≡ false) → either t u ≡ false
unknown_on true k u e r = absurd (omega arith)
unknown_on false k u e r = r ((later_is k).0 e)

pub which_unknown : (ns : List (List ℕ)) (w : List ℕ) → which_of ns w ≡ 0 → is_among ns w ≡ false
unfolding which_of is_among
which_unknown [] w e = refl
which_unknown (n ∷ ns) w e = unknown_on (same_text (text_of w) n) (which_of ns w) (is_among ns w) e (which_unknown ns w)

known_on : (t : Bool) (k : ℕ) (u : Bool) → (pick t 1 (later k) ≡ 0 → ⊥) → ((k ≡ 0 → ⊥) → u ≡ true) → either t u ≡ true
known_on true k u h r = refl
known_on false k u h r = r (λ e. h (ap later e))

pub which_known : (ns : List (List ℕ)) (w : List ℕ) → (which_of ns w ≡ 0 → ⊥) → is_among ns w ≡ true
unfolding which_of is_among
which_known [] w h = absurd (h refl)
which_known (n ∷ ns) w h = known_on (same_text (text_of w) n) (which_of ns w) (is_among ns w) h (which_known ns w)

-- ---- the turn's word is the name, and no other word is

pub word_next : (n : List ℕ) (ns : List (List ℕ)) (j : ℕ) → 0 < j → word_at (n ∷ ns) (suc j) ≡ word_at ns j
word_next n ns zero h = absurd (omega arith)
word_next n ns (suc j) h = rw (sub-one (suc (suc j)), sub-one (suc j))

word_first : (n : List ℕ) (ns : List (List ℕ)) → word_at (n ∷ ns) 1 ≡ n
word_first n ns = refl

later_suc : (k : ℕ) → (k ≡ 0 → ⊥) → later k ≡ suc k
later_suc zero h = absurd (h refl)
later_suc (suc k) h = refl

is_on : (t : Bool) (k : ℕ) (w n : List ℕ) (ns : List (List ℕ)) → same_text (text_of w) n ≡ t
    → (pick t 1 (later k) ≡ 0 → ⊥) → ((k ≡ 0 → ⊥) → same_text (text_of w) (word_at ns k) ≡ true)
    → same_text (text_of w) (word_at (n ∷ ns) (pick t 1 (later k))) ≡ true
is_on true k w n ns e h r = e
is_on false k w n ns e h r =
    let z : k ≡ 0 → ⊥ = λ q. h (ap later q) in
    ap (λ (j : ℕ). same_text (text_of w) (word_at (n ∷ ns) j)) (later_suc k z)
    ∙ ap (same_text (text_of w)) (word_next n ns k (omega arith))
    ∙ r z

pub which_is : (ns : List (List ℕ)) (w : List ℕ) → (which_of ns w ≡ 0 → ⊥)
    → same_text (text_of w) (word_at ns (which_of ns w)) ≡ true
unfolding which_of
which_is [] w h = absurd (h refl)
which_is (n ∷ ns) w h = is_on (same_text (text_of w) n) (which_of ns w) w n ns refl h (which_is ns w)

-- two words that a name spells have one turn
same_turn : (ns : List (List ℕ)) (i j : ℕ) → distinct ns ≡ true → Turn ns i → Turn ns j → word_at ns i ≡ word_at ns j
    → i ≡ j
unfolding distinct
same_turn [] i j d p q e = absurd (let a = p.from in let b = p.to in omega arith)
same_turn (n ∷ ns) zero j d p q e = absurd (let a = p.from in omega arith)
same_turn (n ∷ ns) (suc i) zero d p q e = absurd (let a = q.from in omega arith)
same_turn (n ∷ ns) (suc zero) (suc zero) d p q e = refl
same_turn (n ∷ ns) (suc zero) (suc (suc j)) d p q e =
    absurd (differs_not n ns j (both_true (differs n ns) (distinct ns) d).0 (let b = q.to in omega arith)
    (sym (rw (sub-one (suc (suc j))) refl) ∙ sym e))
same_turn (n ∷ ns) (suc (suc i)) (suc zero) d p q e =
    absurd (differs_not n ns i (both_true (differs n ns) (distinct ns) d).0 (let b = p.to in omega arith)
    (sym (rw (sub-one (suc (suc i))) refl) ∙ e))
same_turn (n ∷ ns) (suc (suc i)) (suc (suc j)) d p q e =
    ap suc (same_turn ns (suc i) (suc j) (both_true (differs n ns) (distinct ns) d).1
    (record { from = omega arith; to = let b = p.to in omega arith })
    (record { from = omega arith; to = let b = q.to in omega arith })
    (sym (word_next n ns (suc i) (omega arith)) ∙ e ∙ word_next n ns (suc j) (omega arith)))

pub bool_not : (t : Bool) → (t ≡ true → ⊥) → t ≡ false
bool_not true h = absurd (h refl)
bool_not false h = refl

pub which_only : (ns : List (List ℕ)) (w : List ℕ) (j : ℕ) → distinct ns ≡ true → (which_of ns w ≡ 0 → ⊥) → Turn ns j
    → (j ≡ which_of ns w → ⊥) → same_text (text_of w) (word_at ns j) ≡ false
which_only ns w j d h q n =
    bool_not (same_text (text_of w) (word_at ns j))
    (λ e. n (same_turn ns j (which_of ns w) d q
    (record { from = omega arith; to = which_most ns w })
    (sym (same_chars (text_of w) (word_at ns j) e) ∙ same_chars (text_of w) (word_at ns (which_of ns w)) (which_is ns w h))))

-- ---- slots from the left

-- what was found before, and what is found behind
abbrev pub joined : Slot → Slot → Slot
joined none y = y
joined many y = many
joined (one t) none = one t
joined (one t) many = many
joined (one t) (one u) = many

joined_many : (x : Slot) → joined x many ≡ many
joined_many none = refl
joined_many many = refl
joined_many (one t) = refl

-- a member of another name
pub slot_other : (x : Slot) (n w : List ℕ) (t : Json) (ms : Members) → same_text (text_of w) n ≡ false
    → joined x (slot n (named w t ms)) ≡ joined x (slot n ms)
unfolding slot
slot_other x n w t ms e = rw e

-- a member of the name, where none was found before
again_joined : (t : Json) (y : Slot) → again t y ≡ joined (one t) y
again_joined t none = refl
again_joined t many = refl
again_joined t (one u) = refl

pub slot_found : (n w : List ℕ) (t : Json) (ms : Members) → same_text (text_of w) n ≡ true
    → joined none (slot n (named w t ms)) ≡ joined (one t) (slot n ms)
unfolding slot
slot_found n w t ms e = rw e (again_joined t (slot n ms))

-- and where one was
again_many : (u t : Json) (y : Slot) → joined (one u) (again t y) ≡ many
again_many u t none = refl
again_many u t many = refl
again_many u t (one v) = refl

pub slot_again : (u : Json) (n w : List ℕ) (t : Json) (ms : Members) → same_text (text_of w) n ≡ true
    → joined (one u) (slot n (named w t ms)) ≡ many
unfolding slot
slot_again u n w t ms e = rw e (again_many u t (slot n ms))

pub joined_none : (x : Slot) → joined x none ≡ x
joined_none none = refl
joined_none many = refl
joined_none (one t) = refl
