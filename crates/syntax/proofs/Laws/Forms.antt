-- Actions, Sids and keys, one character at a time.
use mathlib.Core.Path.{◌≡◌, refl, ap, sym, ◌∙◌}
use mathlib.Core.Bool.{Bool, true, false, ◌&&◌}
use Rattle.std.specs.List.{list_all}
use mathlib.Core.List.{List, [], ◌∷◌}
use Prim.Native.Nat.{ℕ, ◌+◌, ◌-◌, ◌≤◌, ◌<◌}
use native.Mathlib.Numerals.{add-one}
use native.Mathlib.Omega.{arith}
use lib.Dec.{eqb}
use lib.ListN.{length, get_or, take, drop, length-drop, drop_of_length-le}
use lib.Seq.{drop-cons, take_all}
use borrow.Author.Tests.{eq-eqb, ne_eqb, lt-ltb, le-leb, lt-leb}
use Rattle.chars.specs.Base.{pick}
use Rattle.syntax.specs.Limits.{sid_characters}
use Rattle.syntax.specs.Forms.{both, all, same, is_alphanumeric, is_vendor_char, is_name_char, is_name}
use Rattle.syntax.specs.Forms.{is_vendor_tail, is_vendor, is_sid, is_key_char, is_key}

-- a list from a place on
pub drop_next : (cs : List ℕ) (i : ℕ) → i < length cs → drop i cs ≡ get_or cs i 0 ∷ drop (i + 1) cs
drop_next cs i h = drop-cons cs i 0 h ∙ ap (λ (k : ℕ). get_or cs i 0 ∷ drop k cs) (sym (add-one i))

module _ (f : ℕ → Bool) (cs : List ℕ) (i : ℕ) where
  pub all_next : i < length cs → f (get_or cs i 0) ≡ true → all f (drop i cs) ≡ all f (drop (i + 1) cs)
  unfolding all
  all_next h e = ap (all f) (drop_next cs i h) ∙ rw e

  pub all_stop : i < length cs → f (get_or cs i 0) ≡ false → all f (drop i cs) ≡ false
  unfolding all
  all_stop h e = ap (all f) (drop_next cs i h) ∙ rw e

  pub all_end : length cs ≤ i → all f (drop i cs) ≡ true
  unfolding all
  all_end h = ap (all f) (drop_of_length-le cs h)

-- ---- as the library's `all` tests them

pub and_both : (t u : Bool) → (t && u) ≡ both t u
and_both true u = refl
and_both false u = refl

pub all_listed : (f : ℕ → Bool) (cs : List ℕ) → list_all f cs ≡ all f cs
unfolding all
all_listed f [] = refl
all_listed f (c ∷ cs) = ap (λ (t : Bool). f c && t) (all_listed f cs) ∙ and_both (f c) (all f cs)

-- what is lent from a place on
pub rest_all : (cs : List ℕ) (i : ℕ) → take (length cs - i) (drop i cs) ≡ drop i cs
rest_all cs i = take_all (length cs - i) (drop i cs) (omega (arith, length-drop i cs))

pub rest_listed : (f : ℕ → Bool) (cs : List ℕ) (i : ℕ) → list_all f (take (length cs - i) (drop i cs)) ≡ all f (drop i cs)
rest_listed f cs i = ap (list_all f) (rest_all cs i) ∙ all_listed f (drop i cs)

-- ---- actions

module _ (cs : List ℕ) (i : ℕ) where
  name_all : (l : List ℕ) → 0 < length l → is_name l ≡ all is_name_char l
  unfolding is_name
  name_all [] h = absurd (omega arith)
  name_all (x ∷ l) h = refl

  pub name_some : i < length cs → is_name (drop i cs) ≡ all is_name_char (drop i cs)
  name_some h = name_all (drop i cs) (omega (arith, length-drop i cs))

  pub name_none : length cs ≤ i → is_name (drop i cs) ≡ false
  unfolding is_name
  name_none h = ap is_name (drop_of_length-le cs h)

  pub tail_colon : i < length cs → get_or cs i 0 ≡ 58 → is_vendor_tail (drop i cs) ≡ is_name (drop (i + 1) cs)
  unfolding is_vendor_tail
  tail_colon h e = ap is_vendor_tail (drop_next cs i h) ∙ rw (eq-eqb (get_or cs i 0) 58 e)

  pub tail_next : i < length cs → (get_or cs i 0 ≡ 58 → ⊥) → is_vendor_char (get_or cs i 0) ≡ true
      → is_vendor_tail (drop i cs) ≡ is_vendor_tail (drop (i + 1) cs)
  unfolding is_vendor_tail
  tail_next h n e = ap is_vendor_tail (drop_next cs i h) ∙ rw (ne_eqb (get_or cs i 0) 58 n, e)

  pub tail_stop : i < length cs → (get_or cs i 0 ≡ 58 → ⊥) → is_vendor_char (get_or cs i 0) ≡ false
      → is_vendor_tail (drop i cs) ≡ false
  unfolding is_vendor_tail
  tail_stop h n e = ap is_vendor_tail (drop_next cs i h) ∙ rw (ne_eqb (get_or cs i 0) 58 n, e)

  pub tail_end : length cs ≤ i → is_vendor_tail (drop i cs) ≡ false
  unfolding is_vendor_tail
  tail_end h = ap is_vendor_tail (drop_of_length-le cs h)

pub vendor_none : (cs : List ℕ) → length cs ≡ 0 → is_vendor cs ≡ false
unfolding is_vendor
vendor_none [] h = refl
vendor_none (c ∷ cs) h = absurd (omega arith)

pub vendor_first : (cs : List ℕ) → (length cs ≡ 0 → ⊥) → is_vendor_char (get_or cs 0 0) ≡ true
    → is_vendor cs ≡ is_vendor_tail (drop 1 cs)
unfolding is_vendor
vendor_first [] h e = absurd (h refl)
vendor_first (c ∷ cs) h e = rw e

pub vendor_stop : (cs : List ℕ) → (length cs ≡ 0 → ⊥) → is_vendor_char (get_or cs 0 0) ≡ false → is_vendor cs ≡ false
unfolding is_vendor
vendor_stop [] h e = refl
vendor_stop (c ∷ cs) h e = rw e

never : (t : Bool) → pick t false false ≡ false
never true = refl
never false = refl

plain : (t : Bool) → pick t true false ≡ t
plain true = refl
plain false = refl

pub only_not : (cs : List ℕ) (x : ℕ) → (length cs ≡ 1 → ⊥) → same cs (x ∷ []) ≡ false
unfolding same
only_not [] x h = refl
only_not (c ∷ []) x h = absurd (h refl)
only_not (c ∷ d ∷ cs) x h = never (eqb c x)

pub only_is : (cs : List ℕ) (x : ℕ) → length cs ≡ 1 → same cs (x ∷ []) ≡ eqb (get_or cs 0 0) x
unfolding same
only_is [] x h = absurd (omega arith)
only_is (c ∷ []) x h = plain (eqb c x)
only_is (c ∷ d ∷ cs) x h = absurd (omega arith)

-- ---- Sids and keys

pub sid_none : (cs : List ℕ) → length cs ≡ 0 → is_sid cs ≡ false
unfolding is_sid
sid_none [] h = refl
sid_none (c ∷ cs) h = absurd (omega arith)

module _ (cs : List ℕ) where
  some : (length cs ≡ 0 → ⊥) → 0 < length cs
  some h = omega arith

  pub sid_long : sid_characters < length cs → is_sid cs ≡ false
  unfolding is_sid
  sid_long h = let k : 0 < length cs = omega arith in rw (lt-ltb 0 (length cs) k, lt-leb (length cs) sid_characters h)

  pub sid_some : (length cs ≡ 0 → ⊥) → length cs ≤ sid_characters → is_sid cs ≡ all is_alphanumeric cs
  unfolding is_sid
  sid_some h k = rw (lt-ltb 0 (length cs) (some h), le-leb (length cs) sid_characters k)

  pub key_some : (length cs ≡ 0 → ⊥) → is_key cs ≡ all is_key_char cs
  unfolding is_key
  key_some h = rw (lt-ltb 0 (length cs) (some h))

pub key_none : (cs : List ℕ) → length cs ≡ 0 → is_key cs ≡ false
unfolding is_key
key_none [] h = refl
key_none (c ∷ cs) h = absurd (omega arith)

pub key_listed : (cs : List ℕ) → (length cs ≡ 0 → ⊥) → list_all is_key_char cs ≡ is_key cs
key_listed cs h = all_listed is_key_char cs ∙ sym (key_some cs h)
