-- The characters of the written form: what is written and spelled reads back.
--   characters_written           the characters of a written string
--   spelled_wild, spelled_plain  the symbols of what is spelled; where there are no wildcards, of characters
--   spelled_scalars              what is spelled is characters
--   bare_wildcard                an action's wildcards, there and back
use mathlib.Core.Path.{◌≡◌, refl, sym, ap, ◌∙◌, subst}
use mathlib.Core.Bool.{Bool, true, false}
use mathlib.Core.List.{List, [], ◌∷◌, ◌++◌, map}
use Prim.Native.Nat.{ℕ, ◌≤◌}
use native.Mathlib.Omega.{arith}
use native.Mathlib.Decide.{ℕ_discrete}
use lib.Dec.{eqb}
use borrow.Author.Tests.{ne_eqb, eqb-false}
use Rattle.chars.specs.Base.{pick, one_of}
use Rattle.chars.specs.Written.{Scalar, low, high, Scalars, written_text}
use Rattle.chars.specs.Written as W
use Rattle.chars.proofs.Laws.Written.{text_round}
use Rattle.syntax.specs.Policy.{star, any}
use Rattle.syntax.specs.Forms.{read, both, either, wildcard, symbol, ahead, symbols_behind, symbols_of}
use Rattle.syntax.specs.Members.{characters}
use Rattle.writing.specs.WrittenForm.{bare, is_escaped, spelling, spelled}
use Rattle.writing.specs.Valid.{Each, none, more, Symbol, plain, run, one, Symbols}
use Rattle.syntax.proofs.Laws.Characters.{wildcard_none}

pub characters_written : {cs : List ℕ} → Scalars cs → characters (written_text cs) ≡ read cs
unfolding characters
characters_written s = rw (text_round s)

pub scalar_most : {y : ℕ} → Scalar y → y ≤ 1114111
scalar_most (low h) = omega arith
scalar_most (high i) = i.high

-- ---- wildcards

bare_other : (y : ℕ) → (y ≡ star → ⊥) → (y ≡ any → ⊥) → bare y ≡ y
unfolding bare
bare_other y p q = rw (ne_eqb y star p, ne_eqb y any q)

bare_most : (y : ℕ) → y ≤ 1114111 → bare y ≡ y
bare_most y h = bare_other y (λ e. omega arith) (λ e. omega arith)

back : (c : ℕ) → c ≤ 1114111 → bare (wildcard c) ≡ c
unfolding bare wildcard
back c h = by (ℕ_discrete c 42) (ℕ_discrete c 63)
  where
    by : Dec (c ≡ 42) → Dec (c ≡ 63) → bare (wildcard c) ≡ c
    by (yes p) d = ap (λ (x : ℕ). bare (wildcard x)) p ∙ sym p
    by (no p) (yes q) = ap (λ (x : ℕ). bare (wildcard x)) q ∙ sym q
    by (no p) (no q) = ap bare (sym (wildcard_none c p q)) ∙ bare_most c h

pub bare_wildcard : {cs : List ℕ} → Scalars cs → map bare (map wildcard cs) ≡ cs
bare_wildcard W.none = refl
bare_wildcard (W.more {c} {cs} s ss) = rw (back c (scalar_most s), bare_wildcard ss)

-- ---- one symbol

escaped_known : (t w u : Bool) → either t (both w u) ≡ true → pick t true u ≡ true
escaped_known true w u e = refl
escaped_known false true u e = e
escaped_known false false true e = refl
escaped_known false false false e = e

escaped_not : (t w u : Bool) → either t (both w u) ≡ false → (t ≡ false) × (both w u ≡ false)
escaped_not true w u e = absurd (let z : ◌≡◌ {A = ℕ} 0 1 = cc in omega arith)
escaped_not false w u e = (refl, e)

-- a symbol that can be said without wildcards, where there are none
abbrev Sayable : Bool → ℕ → Type 0
Sayable w y = w ≡ false → y ≤ 1114111

module _ (w : Bool) (t : List ℕ) where
  symbols_bare : (c : ℕ) → (c ≡ 36 → ⊥) → symbols_of w (c ∷ t) ≡ ahead (symbol w c) (symbols_of w t)
  unfolding symbols_behind
  symbols_bare c n = rw (ne_eqb c 36 n)

  symbols_escape : (y : ℕ) → one_of (36 ∷ 42 ∷ 63 ∷ []) y ≡ true
      → symbols_of w (36 ∷ 123 ∷ y ∷ 125 ∷ t) ≡ ahead y (symbols_of w t)
  unfolding symbols_behind
  symbols_escape y k = rw k

-- neither * nor ? where they would be wildcards
none_of : (y : ℕ) → one_of (42 ∷ 63 ∷ []) y ≡ false → (y ≡ 42 → ⊥) × (y ≡ 63 → ⊥)
unfolding one_of
none_of y e = (
  λ k. absurd (let z : true ≡ false = sym (ap (one_of (42 ∷ 63 ∷ [])) k) ∙ e in apart z),
  λ k. absurd (let z : true ≡ false = sym (ap (one_of (42 ∷ 63 ∷ [])) k) ∙ e in apart z),
)
  where
    apart : true ≡ false → ⊥
    apart e = let z : ◌≡◌ {A = ℕ} 0 1 = cc in omega arith

symbol_bare : (w : Bool) (y : ℕ) → both w (one_of (42 ∷ 63 ∷ []) y) ≡ false → Sayable w y → symbol w (bare y) ≡ y
unfolding bare wildcard
symbol_bare false y e f = bare_most y (f refl)
symbol_bare true y e f = by (ℕ_discrete y star) (ℕ_discrete y any)
  where
    by : Dec (y ≡ star) → Dec (y ≡ any) → wildcard (bare y) ≡ y
    by (yes p) d = ap (λ (x : ℕ). wildcard (bare x)) p ∙ sym p
    by (no p) (yes q) = ap (λ (x : ℕ). wildcard (bare x)) q ∙ sym q
    by (no p) (no q) =
        let n = none_of y e in ap wildcard (bare_other y p q) ∙ sym (wildcard_none y n.0 n.1)

bare_dollar : (y : ℕ) → (y ≡ 36 → ⊥) → bare y ≡ 36 → ⊥
unfolding bare
bare_dollar y n = by (ℕ_discrete y star) (ℕ_discrete y any)
  where
    by : Dec (y ≡ star) → Dec (y ≡ any) → bare y ≡ 36 → ⊥
    by (yes p) d e = let z = sym (ap bare p) ∙ e in omega arith
    by (no p) (yes q) e = let z = sym (ap bare q) ∙ e in omega arith
    by (no p) (no q) e = n (sym (bare_other y p q) ∙ e)

module _ (w : Bool) (y : ℕ) (t : List ℕ) (f : Sayable w y) where
  spelling_reads : symbols_of w (spelling w y ++ t) ≡ ahead y (symbols_of w t)
  unfolding spelling is_escaped one_of
  spelling_reads = by (is_escaped w y) refl
    where
      by : (b : Bool) → is_escaped w y ≡ b
          → symbols_of w (pick b (36 ∷ 123 ∷ y ∷ 125 ∷ []) (bare y ∷ []) ++ t) ≡ ahead y (symbols_of w t)
      by true e = symbols_escape w t y (escaped_known (eqb y 36) w (one_of (42 ∷ 63 ∷ []) y) e)
      by false e =
          let n = escaped_not (eqb y 36) w (one_of (42 ∷ 63 ∷ []) y) e in
          symbols_bare w t (bare y) (bare_dollar y (eqb-false y 36 n.0))
          ∙ ap (λ (x : ℕ). ahead x (symbols_of w t)) (symbol_bare w y n.1 f)

-- ---- all of them

spelled_reads : (w : Bool) {ys : List ℕ} → Each ℕ (Sayable w) ys → symbols_of w (spelled w ys) ≡ read ys
unfolding spelled symbols_behind ahead
spelled_reads w none = refl
spelled_reads w (more {x = y} {xs = ys} f fs) =
    spelling_reads w y (spelled w ys) f ∙ ap (ahead y) (spelled_reads w fs)

every : (ys : List ℕ) → Each ℕ (Sayable true) ys
every [] = none
every (y ∷ ys) = more (λ e. absurd (let z : ◌≡◌ {A = ℕ} 0 1 = cc in omega arith)) (every ys)

pub spelled_wild : (ys : List ℕ) → symbols_of true (spelled true ys) ≡ read ys
spelled_wild ys = spelled_reads true (every ys)

sayable : {ys : List ℕ} → Scalars ys → Each ℕ (Sayable false) ys
sayable W.none = none
sayable (W.more s ss) = more (λ e. scalar_most s) (sayable ss)

pub spelled_plain : {ys : List ℕ} → Scalars ys → symbols_of false (spelled false ys) ≡ read ys
spelled_plain s = spelled_reads false (sayable s)

-- ---- characters

pub ascii : (c : ℕ) → c ≤ 126 → Scalar c
ascii c h = low {c = c} (omega arith)

bare_scalar : {y : ℕ} → Symbol y → Scalar (bare y)
unfolding bare
bare_scalar run = ascii 42 (omega arith)
bare_scalar one = ascii 63 (omega arith)
bare_scalar (plain {y} s) = subst Scalar (sym (bare_most y (scalar_most s))) s

-- a wildcard is not escaped
wild_bare : (w : Bool) → (is_escaped w star ≡ false) × (is_escaped w any ≡ false)
unfolding is_escaped one_of
wild_bare true = (refl, refl)
wild_bare false = (refl, refl)

escaped_scalar : (w : Bool) {y : ℕ} → is_escaped w y ≡ true → Symbol y → Scalar y
escaped_scalar w e (plain s) = s
escaped_scalar w e run = absurd (let z : ◌≡◌ {A = ℕ} 0 1 = cc (wild_bare w).0 in omega arith)
escaped_scalar w e one = absurd (let z : ◌≡◌ {A = ℕ} 0 1 = cc (wild_bare w).1 in omega arith)

spelling_scalars : (w : Bool) {y : ℕ} {cs : List ℕ} → Symbol y → Scalars cs → Scalars (spelling w y ++ cs)
unfolding spelling
spelling_scalars w {y} {cs} s ss = by (is_escaped w y) refl
  where
    by : (b : Bool) → is_escaped w y ≡ b → Scalars (pick b (36 ∷ 123 ∷ y ∷ 125 ∷ []) (bare y ∷ []) ++ cs)
    by true e =
        W.more (ascii 36 (omega arith)) (W.more (ascii 123 (omega arith))
        (W.more (escaped_scalar w e s) (W.more (ascii 125 (omega arith)) ss)))
    by false e = W.more (bare_scalar s) ss

pub spelled_scalars : (w : Bool) {ys : List ℕ} → Symbols ys → Scalars (spelled w ys)
unfolding spelled
spelled_scalars w none = W.none
spelled_scalars w (more s ss) = spelling_scalars w s (spelled_scalars w ss)

-- characters are symbols
pub scalar_symbols : {cs : List ℕ} → Scalars cs → Symbols cs
scalar_symbols W.none = none
scalar_symbols (W.more s ss) = more (plain s) (scalar_symbols ss)
