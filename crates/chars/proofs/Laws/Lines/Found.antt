-- The line that the code finds ends at the first LF or with the text: counting byte by byte.
use mathlib.Core.Path.{◌≡◌, refl, sym, ap, ◌∙◌}
use mathlib.Core.Bool.{Bool, true, false, ◌||◌}
use mathlib.Core.List.{List, [], ◌∷◌, ◌++◌}
use Prim.Native.Nat.{ℕ, suc, ◌+◌, ◌-◌, ◌≤◌, ◌<◌}
use native.Mathlib.Omega.{arith}
use native.Mathlib.Numerals.{add-one}
use native.Mathlib.Decide.{ℕ_discrete, dec_lt}
use lib.Dec.{eqb}
use lib.ListN.{length, get_or, take, drop, length-append, length-drop}
use lib.Seq.{drop-cons, take_all}
use borrow.Author.Tests.{eq-eqb, ne_eqb, eqb-false, lt-ltb, le-ltb}
use Rattle.chars.specs.Base.{pick}
use Rattle.chars.specs.Lines.{Unbroken, none, more, unbroken, here, line_to, line_at}
use Rattle.std.specs.Prelude.{Option, Some, None}
use Rattle.std.proofs.Common.{cond}
use Rattle.std.specs.List.{position, position_or_len}
use Rattle.std.proofs.lemmas.List.Recursion.{is_position_or_len}
use Rattle.chars.proofs.Laws.Tests.{neither}

pub unbroken_more : (s : List ℕ) (i : ℕ) → i < length s → (get_or s i 0 ≡ 10 → ⊥)
    → i + unbroken (drop i s) ≡ i + 1 + unbroken (drop (i + 1) s)
unfolding unbroken
unbroken_more s i h n =
    let one : unbroken (drop i s) ≡ suc (unbroken (drop (suc i) s)) =
    ap unbroken (drop-cons s i 0 h) ∙ rw (ne_eqb (get_or s i 0) 10 n) in
    let same : unbroken (drop (suc i) s) ≡ unbroken (drop (i + 1) s) =
    ap (λ (k : ℕ). unbroken (drop k s)) (sym (add-one i)) in
    omega (arith, one, same)

-- one more of eight
pub eight_next :
    (s : List ℕ) (at j : ℕ) (t : Bool) → (t ≡ false → at + j + unbroken (drop (at + j) s) ≡ at + unbroken (drop at s))
    → at + j < length s → (t || eqb (get_or s (at + j) 0) 10) ≡ false
    → at + (j + 1) + unbroken (drop (at + (j + 1)) s) ≡ at + unbroken (drop at s)
eight_next s at j t w h e =
    let n = neither t (eqb (get_or s (at + j) 0) 10) e in
    let k : at + (j + 1) ≡ at + j + 1 = omega arith in
    ap (λ (m : ℕ). m + unbroken (drop m s)) k
    ∙ sym (unbroken_more s (at + j) h (eqb-false (get_or s (at + j) 0) 10 n.1)) ∙ w n.0

pub data Cut (w : List ℕ) : Type 0 where
  all : Unbroken w → unbroken w ≡ length w → Cut w
  before : (v r : List ℕ) → w ≡ v ++ (10 ∷ r) → Unbroken v → unbroken w ≡ length v → Cut w

cut_cons : (b : ℕ) (w : List ℕ) → Dec (b ≡ 10) → Cut w → Cut (b ∷ w)
unfolding unbroken
cut_cons b w (yes e) c = before [] w (ap (λ (x : ℕ). x ∷ w) e) none (rw (eq-eqb b 10 e))
cut_cons b w (no n) (all u z) = all (more n u) (rw (ne_eqb b 10 n) (ap suc z))
cut_cons b w (no n) (before v r q u z) =
    before (b ∷ v) r (ap (λ (l : List ℕ). b ∷ l) q) (more n u) (rw (ne_eqb b 10 n) (ap suc z))

pub cut : (w : List ℕ) → Cut w
unfolding unbroken
cut [] = all none refl
cut (b ∷ w) = cut_cons b w (ℕ_discrete b 10) (cut w)

pub unbroken_within : (w : List ℕ) → unbroken w ≤ length w
unbroken_within w = by (cut w)
  where
    by : Cut w → unbroken w ≤ length w
    by (all u z) = omega arith
    by (before v r y u z) = let l = ap length y ∙ length-append v (10 ∷ r) in omega arith

-- ---- the first LF of the rest, as the library looks for it

abbrev pub is_lf : ℕ → Bool
is_lf b = eqb b 10

one_further : (t : Bool) (n : ℕ) → pick t 0 (suc n) ≡ cond t 0 (1 + n)
one_further true n = refl
one_further false n = omega arith

unbroken_position : (w : List ℕ) → unbroken w ≡ position_or_len is_lf w
unfolding unbroken
unbroken_position = is_position_or_len unbroken is_lf refl (λ b w. one_further (is_lf b) (unbroken w))

before_lf : (w : List ℕ) (k : ℕ) → position is_lf w ≡ Some k → unbroken w ≡ k
before_lf w k e = by (dec_lt (position_or_len is_lf w) (length w))
  where
    by : Dec (position_or_len is_lf w < length w) → unbroken w ≡ k
    by (yes h) =
        let s : Some (position_or_len is_lf w) ≡ Some k = sym (rw (lt-ltb (position_or_len is_lf w) (length w) h)) ∙ e in
        unbroken_position w ∙ cc
    by (no h) =
        let n : None ≡ Some k = sym (rw (le-ltb (position_or_len is_lf w) (length w) (omega arith))) ∙ e in
        cc

no_lf : (w : List ℕ) → position is_lf w ≡ None → unbroken w ≡ length w
no_lf w e = by (dec_lt (position_or_len is_lf w) (length w))
  where
    by : Dec (position_or_len is_lf w < length w) → unbroken w ≡ length w
    by (yes h) =
        let s : Some (position_or_len is_lf w) ≡ None = sym (rw (lt-ltb (position_or_len is_lf w) (length w) h)) ∙ e in
        cc
    by (no h) = omega (arith, unbroken_within w, unbroken_position w)

-- ---- the line that the code finds

pub line_some : (s : List ℕ) (i e : ℕ) → i < length s → e ≡ i + unbroken (drop i s) → line_to s e ≡ line_at s i
unfolding line_at
line_some s i e h z = rw (lt-ltb i (length s) h) (ap (line_to s) z)

pub line_lf : (s : List ℕ) (i e : ℕ) → i < length s → e ≡ i + unbroken (drop i s) → e < length s
    → here e (e + 1) ≡ line_at s i
line_lf s i e h z g = sym (rw (lt-ltb e (length s) g)) ∙ line_some s i e h z

pub line_last : (s : List ℕ) (i e : ℕ) → i < length s → e ≡ i + unbroken (drop i s) → length s ≤ e
    → here e e ≡ line_at s i
line_last s i e h z g = sym (rw (le-ltb e (length s) g)) ∙ line_some s i e h z

pub line_over : (s : List ℕ) (i : ℕ) → length s ≤ i → None ≡ line_at s i
unfolding line_at
line_over s i h = rw (le-ltb i (length s) h)

-- looked for behind place i
module _ (s : List ℕ) (i : ℕ) (h : i ≤ length s) {o : Option ℕ} (e : o ≡ position is_lf (take (length s - i) (drop i s))) where
  behind : o ≡ position is_lf (drop i s)
  behind = e ∙ ap (position is_lf) (take_all (length s - i) (drop i s) (omega (arith, length-drop i s)))

  pub behind_lf : {k : ℕ} → o ≡ Some k → i + k ≡ i + unbroken (drop i s)
  behind_lf {k} q = omega (arith, before_lf (drop i s) k (sym behind ∙ q))

  pub behind_none : o ≡ None → length s ≡ i + unbroken (drop i s)
  behind_none q = omega (arith, no_lf (drop i s) (sym behind ∙ q), length-drop i s)
