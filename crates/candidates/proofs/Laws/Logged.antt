-- What a record may hold is legal as a single text where it is charged, but for the resource "*", which no text in a
-- Resource list says.
use mathlib.Core.Path.{◌≡◌, refl, ap, ◌∙◌, subst}
use mathlib.Core.Bool.{Bool, true, false}
use mathlib.Core.List.{List, [], ◌∷◌, map}
use Prim.Native.Nat.{ℕ}
use native.Mathlib.Omega.{arith}
use lib.Dec.{leb}
use borrow.Author.Tests.{le-leb, ne_eqb}
use Rattle.chars.specs.Base.{within, one_of}
use Rattle.chars.specs.Written.{Scalar, low, high, Scalars}
use Rattle.chars.specs.Written as W
use Rattle.chars.proofs.Laws.Tests.{inside}
use Rattle.syntax.specs.Policy.{star, any, Operator}
use Rattle.syntax.specs.Forms.{both, either, all, same, is_alphanumeric, is_vendor_char, is_vendor, is_action, is_arn}
use Rattle.syntax.specs.Forms.{begins_arn, is_resource}
use Rattle.syntax.specs.RecordLayout.{short, is_action_name, is_resource_arn}
use Rattle.syntax.specs.RecordLayout as R
use Rattle.parts.proofs.Laws.Slots.{true_false, both_true}
use Rattle.writing.specs.WrittenForm.{bare}
use Rattle.writing.proofs.Laws.TreeForms.{action_scalars}
use Rattle.candidates.specs.Entries.{in_action, in_resource, in_row, is_scalar, is_plain, legal_text}
use Rattle.candidates.proofs.Laws.Beginnings.{both_is}
use Rattle.candidates.proofs.Laws.Plain.{scalar_below}

either_right : (b d : Bool) → d ≡ true → either b d ≡ true
either_right true d h = refl
either_right false d h = h

-- ---- characters

scalar_is : {c : ℕ} → Scalar c → is_scalar c ≡ true
unfolding is_scalar
scalar_is (low {c = c} h) = rw (le-leb c 55295 h)
scalar_is (high {c = c} i) =
    either_right (leb c 55295) (within 57344 1114111 c) (inside 57344 1114111 c i.low i.high)

scalars_pass : {t : List ℕ} → Scalars t → all is_scalar t ≡ true
unfolding all
scalars_pass W.none = refl
scalars_pass (W.more s ss) = both_is (scalar_is s) (scalars_pass ss)

bare_scalars : {t : List ℕ} → Scalars t → map bare t ≡ t
unfolding bare
bare_scalars W.none = refl
bare_scalars (W.more {c} {cs} s ss) =
    let h = scalar_below s in
    rw (ne_eqb c star (λ e. omega arith), ne_eqb c any (λ e. omega arith), bare_scalars ss)

star_none : R.is_plain 42 ≡ true → ⊥
unfolding R.is_plain is_vendor_char is_alphanumeric one_of
star_none e = true_false e refl

any_none : R.is_plain 63 ≡ true → ⊥
unfolding R.is_plain is_vendor_char is_alphanumeric one_of
any_none e = true_false e refl

-- a character of an action's name
name_plain : (c : ℕ) → R.is_plain c ≡ true → Scalar c → is_plain in_action c ≡ true
unfolding one_of
name_plain c p s = rw (ne_eqb c 42 (no_star p), ne_eqb c 63 (no_any p)) (scalar_is s)
  where
    no_star : R.is_plain c ≡ true → c ≡ 42 → ⊥
    no_star p e = star_none (subst (λ (x : ℕ). R.is_plain x ≡ true) e p)

    no_any : R.is_plain c ≡ true → c ≡ 63 → ⊥
    no_any p e = any_none (subst (λ (x : ℕ). R.is_plain x ≡ true) e p)

names_plain : (t : List ℕ) → all R.is_plain t ≡ true → Scalars t → all (is_plain in_action) t ≡ true
unfolding all
names_plain [] e W.none = refl
names_plain (c ∷ t) e (W.more s ss) =
    let p = both_true (R.is_plain c) (all R.is_plain t) e in
    both_is (name_plain c p.0 s) (names_plain t p.1 ss)

-- ---- texts

pub logged_action : (t : List ℕ) → is_action_name t ≡ true → legal_text in_action t ≡ true
unfolding legal_text is_action short
logged_action t e =
    let p = both_true (is_vendor t) (both (all R.is_plain t) (short t)) e in
    let q = both_true (all R.is_plain t) (short t) p.1 in
    let a : is_action t ≡ true = either_right (same t (42 ∷ [])) (is_vendor t) p.0 in
    let s = action_scalars t a in
    both_is (names_plain t q.0 s) (both_is (ap is_action (bare_scalars s) ∙ a) q.1)

pub logged_resource : (t : List ℕ) → Scalars t → is_resource_arn t ≡ true → same t (42 ∷ []) ≡ false
    → legal_text in_resource t ≡ true
unfolding legal_text is_resource short
logged_resource t s e n =
    let p = both_true (either (same t (42 ∷ [])) (is_arn t)) (short t) e in
    both_is (scalars_pass s) (both_is (either_right (same t (star ∷ [])) (is_arn t) (rw n at p.0)) p.1)

pub logged_every : legal_text in_resource (42 ∷ []) ≡ false
unfolding legal_text is_resource is_arn begins_arn all is_scalar same
logged_every = refl

pub logged_string : (o : Operator) (t : List ℕ) → Scalars t → short t ≡ true → legal_text (in_row o) t ≡ true
unfolding legal_text short
logged_string o t s e = both_is (scalars_pass s) e
