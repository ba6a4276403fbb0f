-- Sids, keys and actions are of ASCII signs only, so each is a run of characters: sid_scalars, key_scalars,
-- action_scalars.
use mathlib.Core.Path.{◌≡◌, refl, sym, ◌∙◌, subst}
use mathlib.Core.Bool.{Bool, true, false}
use mathlib.Core.List.{List, [], ◌∷◌}
use Prim.Native.Nat.{ℕ, ◌≤◌, ◌<◌}
use native.Mathlib.Omega.{arith}
use native.Mathlib.Decide.{dec_lt}
use lib.Dec.{eqb, leb, ltb}
use lib.ListN.{length}
use borrow.Author.Tests.{ne_eqb, eqb-true}
use Rattle.chars.specs.Base.{pick, one_of}
use Rattle.chars.specs.Written.{Scalars}
use Rattle.chars.specs.Written as W
use Rattle.chars.proofs.Laws.Tests.{over}
use Rattle.syntax.specs.Limits.{sid_characters}
use Rattle.syntax.specs.Forms.{both, either, all, same, is_alphanumeric, is_vendor_char, is_name_char, is_name}
use Rattle.syntax.specs.Forms.{is_vendor_tail, is_vendor, is_action, is_sid, is_key_char, is_key}
use Rattle.syntax.proofs.Laws.Characters.{alphanumeric_none, vendor_rest, name_rest, key_rest}
use Rattle.parts.proofs.Laws.Slots.{true_false, both_true}
use Rattle.syntax.proofs.Laws.Same.{same_sound}
use Rattle.writing.proofs.Laws.TreeSpelling.{ascii}

-- ---- one character

-- signs end at z
not_over : (f : ℕ → Bool) (c : ℕ) → (122 < c → f c ≡ false) → f c ≡ true → c ≤ 122
not_over f c g e = by (dec_lt 122 c)
  where
    by : Dec (122 < c) → c ≤ 122
    by (yes h) = absurd (true_false e (g h))
    by (no h) = omega arith

module _ (c : ℕ) (h : 122 < c) where
  alphanumeric_over : is_alphanumeric c ≡ false
  alphanumeric_over =
      sym
      (alphanumeric_none c (over 48 57 c (omega arith)) (over 65 90 c (omega arith)) (over 97 122 c (omega arith)))

  vendor_over : is_vendor_char c ≡ false
  vendor_over =
      sym (vendor_rest c (λ e. omega arith) (λ e. omega arith) (λ e. omega arith)) ∙ alphanumeric_over

  name_over : is_name_char c ≡ false
  unfolding one_of
  name_over =
      sym (name_rest c (rw (ne_eqb c 42 (λ e. omega arith), ne_eqb c 63 (λ e. omega arith)))) ∙ vendor_over

  key_over : is_key_char c ≡ false
  key_over =
      sym
      (key_rest c (λ e. omega arith) (λ e. omega arith) (λ e. omega arith) (λ e. omega arith) (λ e. omega arith))
      ∙ alphanumeric_over

-- ---- all of them

module _ (f : ℕ → Bool) (g : (c : ℕ) → 122 < c → f c ≡ false) where
  sign : (c : ℕ) → f c ≡ true → c ≤ 126
  sign c e = let h = not_over f c (g c) e in omega arith

  all_scalars : (cs : List ℕ) → all f cs ≡ true → Scalars cs
  unfolding all
  all_scalars [] e = W.none
  all_scalars (c ∷ cs) e =
      let p = both_true (f c) (all f cs) e in
      W.more (ascii c (sign c p.0)) (all_scalars cs p.1)

pub sid_scalars : (cs : List ℕ) → is_sid cs ≡ true → Scalars cs
unfolding is_sid
sid_scalars cs e =
    let p = both_true (ltb 0 (length cs)) (both (leb (length cs) sid_characters) (all is_alphanumeric cs)) e in
    let q = both_true (leb (length cs) sid_characters) (all is_alphanumeric cs) p.1 in
    all_scalars is_alphanumeric alphanumeric_over cs q.1

pub key_scalars : (cs : List ℕ) → is_key cs ≡ true → Scalars cs
unfolding is_key
key_scalars cs e =
    let p = both_true (ltb 0 (length cs)) (all is_key_char cs) e in all_scalars is_key_char key_over cs p.1

-- ---- actions

name_scalars : (cs : List ℕ) → is_name cs ≡ true → Scalars cs
unfolding is_name
name_scalars [] e = W.none
name_scalars (c ∷ cs) e = all_scalars is_name_char name_over (c ∷ cs) e

tail_scalars : (cs : List ℕ) → is_vendor_tail cs ≡ true → Scalars cs
unfolding is_vendor_tail
tail_scalars [] e = W.none
tail_scalars (c ∷ cs) e = by (eqb c 58) refl e (tail_scalars cs)
  where
    by : (b : Bool) → eqb c 58 ≡ b → pick b (is_name cs) (both (is_vendor_char c) (is_vendor_tail cs)) ≡ true
        → (is_vendor_tail cs ≡ true → Scalars cs) → Scalars (c ∷ cs)
    by true k e r = let z = eqb-true c 58 k in W.more (ascii c (omega arith)) (name_scalars cs e)
    by false k e r =
        let p = both_true (is_vendor_char c) (is_vendor_tail cs) e in
        W.more (ascii c (sign is_vendor_char vendor_over c p.0)) (r p.1)

vendor_scalars : (cs : List ℕ) → is_vendor cs ≡ true → Scalars cs
unfolding is_vendor
vendor_scalars [] e = W.none
vendor_scalars (c ∷ cs) e =
    let p = both_true (is_vendor_char c) (is_vendor_tail cs) e in
    W.more (ascii c (sign is_vendor_char vendor_over c p.0)) (tail_scalars cs p.1)

pub action_scalars : (cs : List ℕ) → is_action cs ≡ true → Scalars cs
unfolding is_action
action_scalars cs e = by (same cs (42 ∷ [])) refl e
  where
    by : (b : Bool) → same cs (42 ∷ []) ≡ b → either b (is_vendor cs) ≡ true → Scalars cs
    by true k e = subst Scalars (sym (same_sound cs (42 ∷ []) k)) (W.more (ascii 42 (omega arith)) W.none)
    by false k e = vendor_scalars cs e
