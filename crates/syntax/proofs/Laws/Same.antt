-- Texts and keys compared: `same` is equality, and `same_key` is `same` of the keys in small letters.
use mathlib.Core.Path.{◌≡◌, refl, ap, sym, ◌∙◌}
use mathlib.Core.Bool.{Bool, true, false, ◌&&◌}
use lib.Pointwise.{pointwise}
use Rattle.std.specs.List.{list_all, zip}
use mathlib.Core.List.{List, [], ◌∷◌, map}
use Prim.Native.Nat.{ℕ, suc}
use native.Mathlib.Omega.{arith}
use lib.Dec.{eqb}
use lib.ListN.{length, length-map}
use borrow.Author.Tests.{eq-eqb, eqb-true}
use Rattle.chars.specs.Base.{pick}
use Rattle.syntax.specs.Forms.{both, same, lower, same_key}
use Rattle.syntax.proofs.Laws.Forms.{and_both}

never : (t : Bool) → pick t false false ≡ false
never true = refl
never false = refl

pub same_lengths : (a b : List ℕ) → (length a ≡ length b → ⊥) → same a b ≡ false
unfolding same
same_lengths [] [] h = absurd (h refl)
same_lengths [] (y ∷ b) h = refl
same_lengths (x ∷ a) [] h = refl
same_lengths (x ∷ a) (y ∷ b) h = rw (same_lengths a b (λ e. h (ap suc e))) (never (eqb x y))

-- `==` of two slices
pub same_pointwise : (a b : List ℕ) → pointwise eqb a b ≡ same a b
unfolding same
same_pointwise [] [] = refl
same_pointwise [] (y ∷ b) = refl
same_pointwise (x ∷ a) [] = refl
same_pointwise (x ∷ a) (y ∷ b) =
    ap (λ (t : Bool). eqb x y && t) (same_pointwise a b) ∙ and_both (eqb x y) (same a b)

-- ---- equality

both_inv : (t u : Bool) → both t u ≡ true → (t ≡ true) × (u ≡ true)
both_inv true u e = (refl, e)
both_inv false u e = (e, cc)

pub same_sound : (a b : List ℕ) → same a b ≡ true → a ≡ b
unfolding same
same_sound [] [] e = refl
same_sound [] (y ∷ b) e = cc
same_sound (x ∷ a) [] e = cc
same_sound (x ∷ a) (y ∷ b) e =
    let p = both_inv (eqb x y) (same a b) e in
    let q = eqb-true x y p.0 in
    let r = same_sound a b p.1 in
    cc

same_refl : (a : List ℕ) → same a a ≡ true
unfolding same
same_refl [] = refl
same_refl (x ∷ a) = rw (eq-eqb x x refl) (same_refl a)

pub same_complete : {a b : List ℕ} → a ≡ b → same a b ≡ true
same_complete {a} {b} e = ap (same a) (sym e) ∙ same_refl a

-- ---- keys

pub key_same : (k l : List ℕ) → same_key k l ≡ same (map lower k) (map lower l)
unfolding same same_key
key_same [] [] = refl
key_same [] (y ∷ l) = refl
key_same (x ∷ k) [] = refl
key_same (x ∷ k) (y ∷ l) = rw (key_same k l)

pub key_lengths : (k l : List ℕ) → (length k ≡ length l → ⊥) → same_key k l ≡ false
key_lengths k l h =
    key_same k l
    ∙ same_lengths (map lower k) (map lower l) (λ e. h (sym (length-map k lower) ∙ e ∙ length-map l lower))

pub key_refl : (k : List ℕ) → same_key k k ≡ true
key_refl k = key_same k k ∙ same_refl (map lower k)

pub key_sym : (k l : List ℕ) → same_key k l ≡ true → same_key l k ≡ true
key_sym k l e = key_same l k ∙ same_complete (sym (same_sound (map lower k) (map lower l) (sym (key_same k l) ∙ e)))

pub key_trans : (k l m : List ℕ) → same_key k l ≡ true → same_key l m ≡ true → same_key k m ≡ true
key_trans k l m e f =
    let p = same_sound (map lower k) (map lower l) (sym (key_same k l) ∙ e) in
    let q = same_sound (map lower l) (map lower m) (sym (key_same l m) ∙ f) in
    key_same k m ∙ same_complete (p ∙ q)

-- two keys of one length, character beside character
abbrev pub same_lower : ℕ × ℕ → Bool
same_lower p = eqb (lower p.0) (lower p.1)

pub keys_listed : (k l : List ℕ) → length k ≡ length l → list_all same_lower (zip k l) ≡ same_key k l
unfolding same_key
keys_listed [] [] e = refl
keys_listed [] (y ∷ l) e = absurd (omega arith)
keys_listed (x ∷ k) [] e = absurd (omega arith)
keys_listed (x ∷ k) (y ∷ l) e =
    ap (λ (t : Bool). eqb (lower x) (lower y) && t) (keys_listed k l (omega arith))
    ∙ and_both (eqb (lower x) (lower y)) (same_key k l)
