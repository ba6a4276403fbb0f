-- Characters that pass a test, from one place up to another: what holds step by step holds at once.
use mathlib.Core.Path.{◌≡◌, ap, sym, ◌∙◌, subst}
use mathlib.Core.Bool.{Bool, true, false, not}
use mathlib.Core.List.{List}
use Prim.Native.Nat.{ℕ, zero, suc, ◌+◌, ◌-◌, ◌≤◌, ◌<◌}
use native.Mathlib.Omega.{arith}
use native.Mathlib.Decide.{dec_lt}
use lib.ListN.{length, get_or, take, drop}
use borrow.Author.Tests.{not-true, not-false, lt-ltb}
use Rattle.std.specs.Prelude.{Option, Some, None}
use Rattle.std.specs.List.{list_all, position, position_or_len}
use Rattle.std.proofs.lemmas.List.Quantifiers.{position-Some}
use Rattle.std.proofs.lemmas.List.Sums.{fails_before_first}
use Rattle.syntax.specs.Limits.{sid_characters}
use Rattle.syntax.specs.Forms.{Each, all, is_alphanumeric, is_vendor_char, is_name_char, is_name, is_vendor_tail}
use Rattle.syntax.specs.Forms.{is_vendor, is_sid}
use Rattle.syntax.proofs.Laws.Characters.{alphanumeric_vendor, alphanumeric_name, vendor_colon}
use Rattle.syntax.proofs.Laws.Forms.{all_next, tail_next, tail_stop, tail_colon, tail_end, name_some, sid_some}
use Rattle.syntax.proofs.Laws.Forms.{vendor_none, vendor_first, vendor_stop, rest_all, rest_listed}

module _ (f : ℕ → Bool) (cs : List ℕ) where
  pub each_none : (a : ℕ) → a ≤ length cs → Each f cs a a
  each_none a h = record { low = omega arith; high = h; passes = λ k p q. absurd (omega arith) }

  pub each_next : {a e : ℕ} → Each f cs a e → e < length cs → f (get_or cs e 0) ≡ true → Each f cs a (e + 1)
  each_next {a} {e} h l t =
      record { low = omega (arith, h.low); high = omega arith; passes = λ k p q. by k p q (dec_lt k e) }
    where
      by : (k : ℕ) → a ≤ k → k < e + 1 → Dec (k < e) → f (get_or cs k 0) ≡ true
      by k p q (yes g) = h.passes k p g
      by k p q (no g) = let w : e ≡ k = omega arith in subst (λ (n : ℕ). f (get_or cs n 0) ≡ true) w t

  -- the second stretch may begin before the first ends
  pub each_join : {a b c d : ℕ} → Each f cs a b → Each f cs c d → c ≤ b → b ≤ d → Each f cs a d
  each_join {a} {b} {c} {d} g h p q =
      record { low = omega (arith, g.low); high = h.high; passes = λ k u v. by k u v (dec_lt k b) }
    where
      by : (k : ℕ) → a ≤ k → k < d → Dec (k < b) → f (get_or cs k 0) ≡ true
      by k u v (yes w) = g.passes k u w
      by k u v (no w) = h.passes k (omega arith) v

  pub each_at : {a e : ℕ} (k : ℕ) → e ≡ k → Each f cs a e → Each f cs a k
  each_at {a} k p h = subst (Each f cs a) p h

-- what no step changes
steps : {X : Type 0} (P : ℕ → X) (a n : ℕ) → ((k : ℕ) → a ≤ k → k < a + n → P k ≡ P (k + 1)) → P a ≡ P (a + n)
steps P a zero s = let e : a ≡ a + 0 = omega arith in ap P e
steps P a (suc n) s =
    let e : a + n + 1 ≡ a + suc n = omega arith in
    steps P a n (λ k p q. s k p (omega arith)) ∙ s (a + n) (omega arith) (omega arith) ∙ ap P e

kept : {X : Type 0} (P : ℕ → X) (a e : ℕ) → a ≤ e → ((k : ℕ) → a ≤ k → k < e → P k ≡ P (k + 1)) → P a ≡ P e
kept P a e h s =
    let t : a + (e - a) ≡ e = omega arith in steps P a (e - a) (λ k p q. s k p (omega arith)) ∙ ap P t

module _ (cs : List ℕ) {a e : ℕ} (h : Each is_alphanumeric cs a e) where
  pub each_all : (f : ℕ → Bool) → ((c : ℕ) → is_alphanumeric c ≡ true → f c ≡ true)
      → all f (drop a cs) ≡ all f (drop e cs)
  each_all f i =
      kept (λ (k : ℕ). all f (drop k cs)) a e h.low
      (λ k p q. all_next f cs k (omega (arith, h.high)) (i (get_or cs k 0) (h.passes k p q)))

  pub each_name : all is_name_char (drop a cs) ≡ all is_name_char (drop e cs)
  each_name = each_all is_name_char alphanumeric_name

  pub each_alphanumeric : all is_alphanumeric (drop a cs) ≡ all is_alphanumeric (drop e cs)
  each_alphanumeric = each_all is_alphanumeric (λ c t. t)

  pub each_tail : is_vendor_tail (drop a cs) ≡ is_vendor_tail (drop e cs)
  each_tail =
      kept (λ (k : ℕ). is_vendor_tail (drop k cs)) a e h.low
      (λ k p q.
      let v = alphanumeric_vendor (get_or cs k 0) (h.passes k p q) in
      tail_next cs k (omega (arith, h.high)) (vendor_colon (get_or cs k 0) v) v)

-- ---- as the functions find it

pub name_listed : (cs : List ℕ) {e : ℕ} → (length cs ≡ 0 → ⊥) → Each is_alphanumeric cs 0 e
    → list_all is_name_char (take (length cs - e) (drop e cs)) ≡ is_name cs
name_listed cs {e} h p = rest_listed is_name_char cs e ∙ sym (each_name cs p) ∙ sym (name_some cs 0 (omega arith))

pub sid_listed : (cs : List ℕ) {e : ℕ} → (length cs ≡ 0 → ⊥) → length cs ≤ sid_characters → Each is_alphanumeric cs 0 e
    → list_all is_alphanumeric (take (length cs - e) (drop e cs)) ≡ is_sid cs
sid_listed cs {e} h k p = rest_listed is_alphanumeric cs e ∙ sym (each_alphanumeric cs p) ∙ sym (sid_some cs h k)

-- the first character that belongs to no vendor
abbrev pub no_vendor : ℕ → Bool
no_vendor c = not (is_vendor_char c)

module _ (cs : List ℕ) where
  vendor_run : (e : ℕ) → 0 < e → e ≤ length cs → ((k : ℕ) → k < e → is_vendor_char (get_or cs k 0) ≡ true)
      → is_vendor cs ≡ is_vendor_tail (drop e cs)
  vendor_run e h l v =
      vendor_first cs (λ z. omega arith) (v 0 h)
      ∙ kept (λ (k : ℕ). is_vendor_tail (drop k cs)) 1 e (omega arith)
      (λ k p q. tail_next cs k (omega arith) (vendor_colon (get_or cs k 0) (v k q)) (v k q))

  module _ {o : Option ℕ} (found : o ≡ position no_vendor cs) where
    pub vendor_over : o ≡ None → false ≡ is_vendor cs
    vendor_over q = by (dec_lt (position_or_len no_vendor cs) (length cs)) (dec_lt 0 (length cs))
      where
        passed : length cs ≤ position_or_len no_vendor cs → (k : ℕ) → k < length cs → is_vendor_char (get_or cs k 0) ≡ true
        passed h k l =
            not-false (is_vendor_char (get_or cs k 0)) (fails_before_first no_vendor cs k 0 (omega arith))

        by : Dec (position_or_len no_vendor cs < length cs) → Dec (0 < length cs) → false ≡ is_vendor cs
        by (yes h) d =
            let s : Some (position_or_len no_vendor cs) ≡ None =
            sym (rw (lt-ltb (position_or_len no_vendor cs) (length cs) h)) ∙ sym found ∙ q in
            cc
        by (no h) (no z) = sym (vendor_none cs (omega arith))
        by (no h) (yes z) =
            sym (vendor_run (length cs) z (omega arith) (passed (omega arith)) ∙ tail_end cs (length cs) (omega arith))

    module _ {e : ℕ} (q : o ≡ Some e) where
      at : (e < length cs) × (no_vendor (get_or cs e 0) ≡ true) × ((k : ℕ) → k < e → no_vendor (get_or cs k 0) ≡ false)
      at = position-Some no_vendor cs e 0 (sym found ∙ q)

      before : (k : ℕ) → k < e → is_vendor_char (get_or cs k 0) ≡ true
      before k h = not-false (is_vendor_char (get_or cs k 0)) (at.2 k h)

      pub vendor_zero : e ≡ 0 → false ≡ is_vendor cs
      vendor_zero z =
          sym (vendor_stop cs (λ y. omega (arith, at.0, y))
          (subst (λ (k : ℕ). is_vendor_char (get_or cs k 0) ≡ false) z (not-true (is_vendor_char (get_or cs e 0)) at.1)))

      pub vendor_other : 0 < e → (get_or cs e 0 ≡ 58 → ⊥) → false ≡ is_vendor cs
      vendor_other h n =
          sym (vendor_run e h (omega (arith, at.0)) before
          ∙ tail_stop cs e at.0 n (not-true (is_vendor_char (get_or cs e 0)) at.1))

      pub vendor_name : 0 < e → get_or cs e 0 ≡ 58 → is_name (take (length cs - (e + 1)) (drop (e + 1) cs)) ≡ is_vendor cs
      vendor_name h c =
          ap is_name (rest_all cs (e + 1)) ∙ sym (tail_colon cs e at.0 c)
          ∙ sym (vendor_run e h (omega (arith, at.0)) before)
