-- What the writers add, piece by piece, is what the definitions say.
use mathlib.Core.Path.{◌≡◌, refl, sym, ap, ◌∙◌, subst}
use mathlib.Core.Bool.{Bool, true, false}
use mathlib.Core.List.{List, [], ◌∷◌, ◌++◌, append-nil, append_assoc}
use Prim.Native.Nat.{ℕ, zero, suc, ◌+◌, ◌-◌, ◌/◌, ◌%◌, ◌≤◌, ◌<◌}
use native.Mathlib.Omega.{arith}
use lib.ListN.{length}
use borrow.Author.Tests.{eq-eqb, ne_eqb, lt-ltb, le-ltb}
use Rattle.chars.specs.Written.{written, written_text}
use Rattle.text.specs.Printing.{quoted}
use Rattle.syntax.specs.Policy.{Statement}
use Rattle.held.specs.Held.{effect_number}
use Rattle.syntax.specs.Words.{sid_word, effect_word, action_word, allow_word, deny_word}
use Rattle.syntax.specs.Words.{string_equals_word, string_like_word, numeric_less_than_equals_word}
use Rattle.writing.specs.WrittenForm.{bare, is_escaped, spelling, digits_up_to}
use Rattle.writing.specs.declared.sink.Sink.{Sink}
use Rattle.writing.specs.Showing.{Adds}
use Rattle.writing.specs.Bytes.{name, operator_name, ending, turning, sid_bytes, effect_bytes, head_bytes}
use Rattle.writing.proofs.Laws.Showing.{adds_none}

-- ---- symbols

module _ (w : Bool) (y : ℕ) where
  pub spelling_bare : is_escaped w y ≡ false → written (bare y) ≡ written_text (spelling w y)
  unfolding spelling written_text
  spelling_bare e = rw e (sym (append-nil (written (bare y))))

  pub spelling_escaped : is_escaped w y ≡ true → 36 ∷ 123 ∷ (written y ++ (125 ∷ [])) ≡ written_text (spelling w y)
  unfolding spelling written_text written
  spelling_escaped e = rw e refl

-- ---- digits

pub digits_last : (k n : ℕ) → k ≡ 0 → (48 + n % 10) ∷ [] ≡ digits_up_to k n
unfolding digits_up_to
digits_last k n e = rw e refl

pub digits_one : (k n : ℕ) → (k ≡ 0 → ⊥) → n < 10 → (48 + n % 10) ∷ [] ≡ digits_up_to k n
unfolding digits_up_to
digits_one zero n s h = absurd (s refl)
digits_one (suc k) n s h =
    let e : n % 10 ≡ n = omega arith in
    rw (lt-ltb n 10 h) (ap (λ (d : ℕ). (48 + d) ∷ []) e)

pub digits_more :
    (k n : ℕ) → (k ≡ 0 → ⊥) → 10 ≤ n → digits_up_to (k - 1) (n / 10) ++ ((48 + n % 10) ∷ []) ≡ digits_up_to k n
unfolding digits_up_to
digits_more zero n s h = absurd (s refl)
digits_more (suc k) n s h =
    let e : suc k - 1 ≡ k = omega arith in
    rw (le-ltb n 10 h) (ap (λ (j : ℕ). digits_up_to j (n / 10) ++ ((48 + n % 10) ∷ [])) e)

-- ---- names

pub name_before : (w zs : List ℕ) → 34 ∷ (w ++ (34 ∷ 58 ∷ zs)) ≡ name w ++ zs
name_before w zs =
    ap (λ (l : List ℕ). 34 ∷ l)
    (sym (append_assoc (w ++ (34 ∷ [])) (58 ∷ []) zs ∙ append_assoc w (34 ∷ []) (58 ∷ zs)))

pub name_alone : (w : List ℕ) → 34 ∷ (w ++ (34 ∷ 58 ∷ [])) ≡ name w
name_alone w = name_before w [] ∙ append-nil (name w)

pub quoted_before : (w zs : List ℕ) → 34 ∷ (w ++ (34 ∷ zs)) ≡ quoted w ++ zs
quoted_before w zs = ap (λ (l : List ℕ). 34 ∷ l) (sym (append_assoc w (34 ∷ []) zs))

module _ (k : ℕ) where
  pub operator_one : k ≡ 1 → string_equals_word ≡ operator_name k
  unfolding operator_name
  operator_one e = rw (eq-eqb k 1 e) refl

  module _ (s : k ≡ 1 → ⊥) where
    pub operator_two : k ≡ 2 → string_like_word ≡ operator_name k
    unfolding operator_name
    operator_two e = rw (ne_eqb k 1 s, eq-eqb k 2 e) refl

    pub operator_three : (k ≡ 2 → ⊥) → numeric_less_than_equals_word ≡ operator_name k
    unfolding operator_name
    operator_three t = rw (ne_eqb k 1 s, ne_eqb k 2 t) refl

  pub effect_allow : k ≡ 1 → name effect_word ++ (quoted allow_word ++ (44 ∷ [])) ≡ effect_bytes k
  unfolding effect_bytes
  effect_allow e = rw (eq-eqb k 1 e) refl

  pub effect_deny : (k ≡ 1 → ⊥) → name effect_word ++ (quoted deny_word ++ (44 ∷ [])) ≡ effect_bytes k
  unfolding effect_bytes
  effect_deny s = rw (ne_eqb k 1 s) refl

-- ---- what stands before a row

pub ending_none : {k : ℕ} {s : Sink} → k ≡ 0 → Adds (ending k) s s
ending_none {k} {s} e = subst (λ (j : ℕ). Adds (ending j) s s) (sym e) (adds_none s)

pub ending_some : (k : ℕ) → (k ≡ 0 → ⊥) → 125 ∷ 44 ∷ [] ≡ ending k
ending_some zero s = absurd (s refl)
ending_some (suc k) s = refl

module _ (k o : ℕ) where
  pub turning_same : k ≡ o → 44 ∷ [] ≡ turning k o
  unfolding turning
  turning_same e = rw (eq-eqb k o e) refl

  pub turning_other :
      (k ≡ o → ⊥) → ending k ++ (34 ∷ (operator_name o ++ (34 ∷ 58 ∷ 123 ∷ []))) ≡ turning k o
  unfolding turning
  turning_other s =
      rw (ne_eqb k o s) (ap (λ (l : List ℕ). ending k ++ l) (name_before (operator_name o) (123 ∷ [])))

-- ---- statements

pub head_before :
    (x : Statement) (zs : List ℕ)
    → head_bytes x ++ zs ≡ 123 ∷ (sid_bytes x.sid ++
    (effect_bytes (effect_number x.effect) ++ (name action_word ++ zs)))
unfolding head_bytes
head_before x zs =
    let e = effect_bytes (effect_number x.effect) in
    ap (λ (l : List ℕ). 123 ∷ l) (append_assoc (sid_bytes x.sid) (e ++ name action_word) zs
    ∙ ap (λ (l : List ℕ). sid_bytes x.sid ++ l) (append_assoc e (name action_word) zs))

pub sid_none : (cs : List ℕ) {s : Sink} → length cs ≡ 0 → Adds (sid_bytes cs) s s
sid_none [] {s} e = adds_none s
sid_none (c ∷ cs) e = absurd (omega (arith, e))

pub sid_some :
    (cs : List ℕ) → (length cs ≡ 0 → ⊥)
    → (name sid_word ++ (34 ∷ [])) ++ (written_text cs ++ (34 ∷ 44 ∷ [])) ≡ sid_bytes cs
sid_some [] s = absurd (s refl)
sid_some (c ∷ cs) s = ap (λ (l : List ℕ). name sid_word ++ l) (quoted_before (written_text (c ∷ cs)) (44 ∷ []))
