-- What is added at one place: a character, a comma, an escape.
use mathlib.Core.Path.{◌≡◌, refl, sym, subst}
use mathlib.Core.Bool.{Bool, true, false, not, ◌&&◌}
use mathlib.Core.List.{List, [], ◌∷◌, ◌++◌}
use Prim.Native.Nat.{ℕ, zero, suc, ◌≤◌, ◌<◌}
use native.Mathlib.Omega.{arith}
use lib.Dec.{eqb, leb, ltb}
use lib.ListN.{length}
use borrow.Author.Tests.{eq-eqb, ne_eqb, ltb-true, eqb-false, not-true}
use Rattle.chars.specs.Base.{pick, one_of}
use Rattle.chars.specs.Written.{coded, written}
use Rattle.chars.proofs.Laws.Tests.{each_true}
use Rattle.chars.proofs.Laws.Written.Forms.{written_bare}
use Rattle.writing.specs.WrittenForm.{is_escaped}
use Rattle.writing.specs.declared.sink.Sink.{Sink}
use Rattle.writing.specs.Showing.{Adds}
use Rattle.writing.specs.Bytes.{between}
use Rattle.writing.proofs.Laws.Showing.{adds_none}

-- ---- a character takes some bytes

pick_some : (b : Bool) (xs ys : List ℕ) → 0 < length xs → 0 < length ys → 0 < length (pick b xs ys)
pick_some true xs ys h k = h
pick_some false xs ys h k = k

coded_some : (u : ℕ) (zs : List ℕ) → 0 < length (coded u ++ zs)
unfolding coded
coded_some u zs = omega arith

coded_one : (u : ℕ) → 0 < length (coded u)
unfolding coded
coded_one u = omega arith

pub written_some : (c : ℕ) → 0 < length (written c)
unfolding written
written_some c =
    pick_some (eqb c 34) _ _ (omega arith)
    (pick_some (eqb c 92) _ _ (omega arith)
    (pick_some (ltb c 32) _ _ (coded_one c)
    (pick_some (leb c 126) _ _ (omega arith)
    (pick_some (leb c 65535) _ _ (coded_one c) (coded_some _ _)))))

-- ---- a character written as itself

pub bare_written :
    (c : ℕ) → (ltb 31 c && ltb c 127 && not (eqb c 34) && not (eqb c 92)) ≡ true → (c ≤ 126) × (written c ≡ c ∷ [])
bare_written c h =
    let p = each_true _ _ h in
    let q = each_true _ _ p.0 in
    let r = each_true _ _ q.0 in
    let low = ltb-true 31 c r.0 in
    let high = ltb-true c 127 r.1 in
    let quote = eqb-false c 34 (not-true _ q.1) in
    let solidus = eqb-false c 92 (not-true _ p.1) in
    (omega (arith, high), written_bare c quote solidus (omega (arith, low)) (omega (arith, high)))

-- ---- what is escaped

itself : (b : Bool) → b ≡ pick b true false
itself true = refl
itself false = refl

module _ (w : Bool) (y : ℕ) where
  pub dollar_escaped : y ≡ 36 → true ≡ is_escaped w y
  unfolding is_escaped
  dollar_escaped e = rw (eq-eqb y 36 e) refl

  module _ (s : y ≡ 36 → ⊥) where
    pub plain_bare : w ≡ false → false ≡ is_escaped w y
    unfolding is_escaped
    plain_bare e = rw (ne_eqb y 36 s, e) refl

    module _ (e : w ≡ true) where
      pub star_escaped : y ≡ 42 → true ≡ is_escaped w y
      unfolding is_escaped one_of
      star_escaped f = rw (ne_eqb y 36 s, e, eq-eqb y 42 f) refl

      pub any_escaped : (y ≡ 42 → ⊥) → eqb y 63 ≡ is_escaped w y
      unfolding is_escaped one_of
      any_escaped f = rw (ne_eqb y 36 s, e, ne_eqb y 42 f) (itself (eqb y 63))

-- ---- commas

pub between_none : {i : ℕ} {s : Sink} → i ≡ 0 → Adds (between i) s s
between_none {i} {s} e = subst (λ (k : ℕ). Adds (between k) s s) (sym e) (adds_none s)

pub between_comma :
    (i : ℕ) {s t : Sink} → (i ≡ 0 → ⊥) → Adds (44 ∷ []) s t → Adds (between i) s t
between_comma zero s a = absurd (s refl)
between_comma (suc i) s a = a
